use Rattle.std.proofs.Common.{subst}
use Rattle.sq_spec.specs.Works.{flat}
use Rattle.sq_flat.specs.declared.flat.FlatEnd.{FlatEnd}
use Rattle.sq_flat.specs.Ends.{IsEnd}
use Rattle.sq_driver.proofs.Finals.{shown, holds_shown, kept_end, trap_end}
use Rattle.sq_driver.proofs.commands.eval.eval_given.Goals as goal

pub returns-in-Ok-clause-shapes : goal.returns-in-Ok-clause-shapes
returns-in-Ok-clause-shapes c =
    (kept_end c.args.given.shapes c.in-Ok.arrays _ (c.in-Ok.ensures (shown c.args.given.shapes c.args.given.bytes)
    (holds_shown c.args.given.shapes c.args.given.bytes))).0

pub returns-in-Ok-clause-whole : goal.returns-in-Ok-clause-whole
returns-in-Ok-clause-whole c =
    (kept_end c.args.given.shapes c.in-Ok.arrays _ (c.in-Ok.ensures (shown c.args.given.shapes c.args.given.bytes)
    (holds_shown c.args.given.shapes c.args.given.bytes))).1

pub returns-in-Err-Trap-clause-ends : goal.returns-in-Err-Trap-clause-ends
returns-in-Err-Trap-clause-ends c = λ s holds.
    trap_end c.args.given.shapes c.in-Err-Trap.trapped c.trap_at.result c.trap_at.ensures
    (flat c.args.resolved.now.typed.now c.args.resolved.now.mapping.now s)
    (subst (λ (e : FlatEnd). IsEnd e (flat c.args.resolved.now.typed.now c.args.resolved.now.mapping.now s))
    c.in-Err-Trap.field-0-is (c.in-Err-Trap.ensures s holds))
