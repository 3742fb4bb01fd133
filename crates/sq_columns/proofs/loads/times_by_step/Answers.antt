use Rattle.std.proofs.Common.{rules, sym, subst, length, ℤ, w64, FitsSigned}
use Rattle.std.proofs.lemmas.Int.{to_z-of_z}
use Rattle.sq_num.specs.Elements.{width}
use Rattle.sq_columns.specs.Lines.{IsFirst}
use Rattle.sq_columns.proofs.Carried.{same_ramp}
use Rattle.sq_columns.proofs.loads.times_by_step.Goals as goal

pub times_each-requires-clause-inside : goal.times_each-requires-clause-inside
times_each-requires-clause-inside c = λ j below.
    let fa : FitsSigned w64 c.in-Ramp.at = search rules in
    let fs : FitsSigned w64 c.in-Ramp.step = search rules in
    subst (λ (x : ℤ). IsFirst (width c.args.elem) (length c.args.bytes.now) x)
    (sym (same_ramp c.args.spots c.in-Ramp.at c.in-Ramp.step _ _ c.in-Ramp.is (to_z-of_z w64 c.in-Ramp.at fa) (to_z-of_z w64 c.in-Ramp.step fs) c.args.column.now j))
    (c.requires.inside j below)
