use Rattle.std.proofs.Common.{length}
use Rattle.sq_turns.proofs.Spotting.{some_after}
use Rattle.sq_turns.proofs.Planning.{roomy}
use Rattle.sq_turns.proofs.plan.rising_spots.Goals as goal

pub returns-in-Some-clause-room : goal.returns-in-Some-clause-room
returns-in-Some-clause-room c =
    some_after c.rise_of.result _ _
    (λ r rises. roomy c.args.setting.now.block.now.turns (length c.args.setting.now.bytes.now) _ _ c.args.view.now.elem c.in-Some.spots c.spots.new.columns r c.args.setting.now.few c.requires.one.ends c.in-Some.ensures.lies rises) c.rise_of.ensures
