use Rattle.std.proofs.Common.{sym, ap, ◌∙◌}
use Rattle.std.specs.Prelude.{option_map}
use Rattle.sq_forms.specs.Steps as steps
use Rattle.sq_forms.specs.Args as argued
use Rattle.sq_forms.specs.Worlds as worlds
use Rattle.sq_forms.specs.Calls as spec
use Rattle.sq_forms.proofs.Joins.{call_made}
use Rattle.sq_forms.proofs.call.make_call.Goals as goal

pub returns-clause-steps : goal.returns-clause-steps
returns-clause-steps c =
    call_made c.reach.result (worlds.frame_of c.args.frame.now) (argued.names_of c.args.known.now) (spec.site_of c.args.site.now) c.args.numbers.now c.args.c.now
    (worlds.callee_by c.in-Some.callee) c.as_slice.result.now c.as_slice-2.result.now (steps.state_of c.args.walk.now) (steps.state_of c.args-2.new.walk) (steps.state_of c.reach.new.walk)
    (sym c.callee_of.ensures ∙ ap (option_map worlds.callee_by) c.in-Some.is) c.as_slice.ensures (c.as_slice-2.ensures ∙ c.in_ok-list.ensures.list) c.in_ok-list.ensures.steps c.reach.ensures.steps
