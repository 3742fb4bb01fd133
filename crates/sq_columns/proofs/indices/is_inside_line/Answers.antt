use Rattle.std.proofs.Common.{rules, subst, pos, ◌≤ℤ◌, ◌<ℤ◌, ℤ, w64, FitsSigned}
use Rattle.std.proofs.lemmas.Int.{to_z-of_z}
use Rattle.sq_columns.proofs.Carried.{same_ramp}
use Rattle.sq_columns.proofs.indices.is_inside_line.Goals as goal

pub returns-in-Ramp : goal.returns-in-Ramp
returns-in-Ramp c = λ yes j below.
    let fa : FitsSigned w64 c.in-Ramp.first = search rules in
    let fs : FitsSigned w64 c.in-Ramp.step = search rules in
    let inside = c.is_inside_ramp.ensures yes j below in
    let same = same_ramp c.args.x c.in-Ramp.first c.in-Ramp.step _ _ c.in-Ramp.is (to_z-of_z w64 c.in-Ramp.first fa) (to_z-of_z w64 c.in-Ramp.step fs) c.args.xs.now j in
    (subst (λ (z : ℤ). pos 0 ≤ℤ z) same inside.0, subst (λ (z : ℤ). z <ℤ pos c.args.extent) same inside.1)
