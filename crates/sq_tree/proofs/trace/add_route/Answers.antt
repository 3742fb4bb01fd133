use Rattle.std.specs.Prelude.{codes, decimal}
use Rattle.sq_sched.specs.Seen.{seen_spot}
use Rattle.sq_tree.specs.Trace.{spot_text}
use Rattle.sq_tree.proofs.Lines.{gathered}
use Rattle.sq_tree.proofs.trace.add_route.Goals as goal

pub returns-clause-gathers : goal.returns-clause-gathers
returns-clause-gathers g c = λ start faults text h.
    gathered start _ faults _ text (spot_text c.args.plan.now.nodes (seen_spot c.args.route.from)) (codes " ")
    (spot_text c.args.plan.now.nodes (seen_spot c.args.route.to)) (codes " ") (decimal c.args.route.bytes) _
    (c.add_number.ensures.gathers _ _ _ (c.add-2.ensures.gathers _ _ _ (c.add_spot-2.ensures.gathers _ _ _
    (c.add.ensures.gathers _ _ _ (c.add_spot.ensures.gathers _ _ _ h)))))
