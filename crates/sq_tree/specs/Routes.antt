-- Two rows of which one goes to the other, as the code keeps them; no public clause speaks of them.
use Rattle.std.specs.Prelude.{ℕ, List}
use Rattle.sq_ir.specs.declared.plan.PlanNode.{PlanNode}
use Rattle.sq_sched.specs.Seen.{seen_spot}
use Rattle.sq_tree.specs.declared.trace.Route.{Route}
use Rattle.sq_tree.specs.Trace.{route_text}

abbrev pub route_of : List PlanNode → Route → List ℕ
route_of nodes r = route_text nodes (seen_spot r.from) (seen_spot r.to) r.bytes
