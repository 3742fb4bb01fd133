use Rattle.std.proofs.Common.{arith, get_or}
use Rattle.std.proofs.lemmas.Grind.{common_steps}
use Rattle.std.proofs.lemmas.Option.{slice_get-get_or}
use Rattle.sq_race.proofs.Firsts.{blank}
use Rattle.sq_race.proofs.Selected.{inside_more, inside_fewer}
use Rattle.sq_race.proofs.forms.calls_of.Goals as goal

pub loop-number-preserved : goal.loop-number-preserved
loop-number-preserved c =
    inside_more c.args.maps.now c.args.from c.loop-number.number c.loop-number.calls (record { lo = c.min.result; hi = c.max.result }) (get_or c.args.maps.now c.loop-number.number blank) c.loop-number.invariant
    (slice_get-get_or c.args.maps.now c.loop-number.number blank (omega (arith, c.requires)))
    (grind (arith, common_steps, c.min.ensures)) (grind (arith, common_steps, c.min.ensures)) (grind (arith, common_steps, c.max.ensures)) (grind (arith, common_steps, c.max.ensures))

pub returns : goal.returns
returns c = inside_fewer c.args.maps.now c.args.from c.loop-number.number c.args.to c.loop-number.calls c.loop-number.invariant c.loop-number-test.false
