use Rattle.std.proofs.Common.{rules, ◌∙◌, sym, ap, subst, length, ℤ, w64, FitsSigned, to_z}
use Rattle.std.proofs.lemmas.Int.{to_z-of_z}
use Rattle.sq_num.specs.Elements.{width}
use Rattle.sq_columns.specs.Lines.{IsFirst}
use Rattle.sq_columns.proofs.Carried.{same_ramp}
use Rattle.sq_columns.proofs.loads.by_step.Goals as goal

pub load_each-requires-clause-inside : goal.load_each-requires-clause-inside
load_each-requires-clause-inside c = λ j below.
    let fa : FitsSigned w64 c.in-Ramp.at = search rules in
    let fs : FitsSigned w64 c.in-Ramp.step = search rules in
    let step = sym (ap (to_z w64) c.if-step-wide.true) ∙ to_z-of_z w64 c.in-Ramp.step fs in
    subst (λ (x : ℤ). IsFirst (width c.args.elem) (length c.args.bytes.now) x)
    (sym (same_ramp c.args.spots c.in-Ramp.at c.in-Ramp.step _ _ c.in-Ramp.is (to_z-of_z w64 c.in-Ramp.at fa) step c.args.column.now j))
    (c.requires.inside j below)

pub load_each-requires-in-Ramp-2-clause-inside : goal.load_each-requires-in-Ramp-2-clause-inside
load_each-requires-in-Ramp-2-clause-inside c = λ j below.
    let fa : FitsSigned w64 c.in-Ramp-2.at = search rules in
    let fs : FitsSigned w64 c.in-Ramp-2.step = search rules in
    subst (λ (x : ℤ). IsFirst (width c.args.elem) (length c.args.bytes.now) x)
    (sym (same_ramp c.args.spots c.in-Ramp-2.at c.in-Ramp-2.step _ _ c.in-Ramp-2.is (to_z-of_z w64 c.in-Ramp-2.at fa) (to_z-of_z w64 c.in-Ramp-2.step fs) c.args.column.now j))
    (c.requires.inside j below)
