use Rattle.std.proofs.Common.{◌∙◌, sym, ap, w64, to_z, pos}
use Rattle.std.proofs.lemmas.Int.{wrapping_mul_is, to_z-of_z}
use Rattle.sq_columns.proofs.Wrapping.{ramp_times, times_ramp}
use Rattle.sq_columns.proofs.operators.multiple.Goals as goal

pub returns-then-e-eq0 : goal.returns-then-e-eq0
returns-then-e-eq0 c = λ zs j.
    let none = sym (to_z-of_z w64 c.args.e c.ranges.e) ∙ ap (to_z w64) c.if-e-eq0.true in
    ramp_times c.args.a c.args.d c.args.b c.args.e _ _ (pos j) none (wrapping_mul_is w64 c.args.a c.args.b c.ranges.a c.ranges.b) (wrapping_mul_is w64 c.args.d c.args.b c.ranges.d c.ranges.b)

pub returns-then-d-eq0 : goal.returns-then-d-eq0
returns-then-d-eq0 c = λ zs j.
    let none = sym (to_z-of_z w64 c.args.d c.ranges.d) ∙ ap (to_z w64) c.if-d-eq0.true in
    times_ramp c.args.a c.args.d c.args.b c.args.e _ _ (pos j) none (wrapping_mul_is w64 c.args.a c.args.b c.ranges.a c.ranges.b) (wrapping_mul_is w64 c.args.a c.args.e c.ranges.a c.ranges.e)
