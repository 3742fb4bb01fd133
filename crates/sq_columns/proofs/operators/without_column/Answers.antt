use Rattle.std.proofs.Common.{rules, pos, w64, FitsSigned}
use Rattle.std.proofs.lemmas.Int.{to_z-of_z}
use Rattle.sq_columns.proofs.Carried.{number_ramp, same_ramp, on_ramps}
use Rattle.sq_columns.proofs.operators.without_column.Goals as goal

pub returns-in-Ramp-y : goal.returns-in-Ramp-y
returns-in-Ramp-y c =
    let fa : FitsSigned w64 c.in-Same.a = search rules in
    let fb : FitsSigned w64 c.in-Ramp-y.b = search rules in
    let fe : FitsSigned w64 c.in-Ramp-y.e = search rules in
    on_ramps c.args.op c.args.x c.args.y c.from_ramps.result _ (pos 0) _ _ (number_ramp c.in-Same.a _ c.args.x fa (to_z-of_z w64 c.in-Same.a fa) c.in-Same.is)
    (same_ramp c.args.y c.in-Ramp-y.b c.in-Ramp-y.e _ _ c.in-Ramp-y.is (to_z-of_z w64 c.in-Ramp-y.b fb) (to_z-of_z w64 c.in-Ramp-y.e fe)) c.from_ramps.ensures

pub returns-in-Same-y-2 : goal.returns-in-Same-y-2
returns-in-Same-y-2 c =
    let fb : FitsSigned w64 c.in-Same-y-2.b = search rules in
    let fa : FitsSigned w64 c.in-Ramp.a = search rules in
    let fd : FitsSigned w64 c.in-Ramp.d = search rules in
    on_ramps c.args.op c.args.x c.args.y c.from_ramps-in-Same-y-2.result _ _ _ (pos 0)
    (same_ramp c.args.x c.in-Ramp.a c.in-Ramp.d _ _ c.in-Ramp.is (to_z-of_z w64 c.in-Ramp.a fa) (to_z-of_z w64 c.in-Ramp.d fd))
    (number_ramp c.in-Same-y-2.b _ c.args.y fb (to_z-of_z w64 c.in-Same-y-2.b fb) c.in-Same-y-2.is) c.from_ramps-in-Same-y-2.ensures
