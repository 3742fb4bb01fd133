use Rattle.std.proofs.Common.{rules, ◌≡◌, ◌+◌, slice_get, Some, refl}
use Rattle.sq_leaf.specs.Running as running
use Rattle.sq_turns.specs.Plans.{block_past}
use Rattle.sq_turns.proofs.Spotting.{some_after}
use Rattle.sq_turns.proofs.Planning.{next_is}
use Rattle.sq_turns.proofs.plan.next_deed.Goals as goal

pub returns-in-Some-past-clause-is : goal.returns-in-Some-past-clause-is
returns-in-Some-past-clause-is c =
    let block : c.in-Some-past.block ≡ block_past c.args.setting.now.block.now c.args.k = search rules in
    let first : slice_get c.args.setting.now.block.now.writes.items c.args.k ≡ Some c.in-Some.v.now = search rules in
    let second : slice_get c.args.setting.now.block.now.writes.items (c.args.k + 1) ≡ Some c.in-Some-at.w.now = search rules in
    some_after c.deed.result _ _
    (λ m h. next_is c.args.setting.now _ c.args.k c.in-Some.v.now c.in-Some-at.w.now (running.run_action c.args.action.now) c.deed.new.columns c.args.next m.free m.deed
    refl refl block first second h)
    c.deed.ensures.is
