use Rattle.std.proofs.Common.{rules, ◌≡◌, ◌∙◌, ◌<◌, ◌^◌, subst, pos, ◌≤ℤ◌, ◌<ℤ◌, ◌+ℤ◌, ◌*ℤ◌, ℤ, w64, FitsSigned, to_z, of_z}
use Rattle.std.proofs.lemmas.Int.{to_z-of_z}
use Rattle.sq_leaf.specs.Numbers.{wrapped}
use Rattle.sq_columns.proofs.Inside.{inside_ramp}
use Rattle.sq_columns.proofs.indices.is_inside_ramp.Goals as goal

pub returns : goal.returns
returns c = λ yes j below.
    let fits : FitsSigned w64 c.last_of.result = search rules in
    let small : c.args.extent < 2 ^ 32 = search rules in
    let first = c.is_index.ensures c.if-not-is_index.false in
    let last = c.is_index-2.ensures yes in
    let is = to_z-of_z w64 c.last_of.result fits ∙ c.last_of.ensures in
    let inside = inside_ramp (to_z w64 (of_z w64 c.args.first)) (to_z w64 (of_z w64 c.args.step)) j c.args.n c.args.extent below small first.0 first.1
    (subst (λ (z : ℤ). pos 0 ≤ℤ z) is last.0) (subst (λ (z : ℤ). z <ℤ pos c.args.extent) is last.1) in
    let same : wrapped (to_z w64 (of_z w64 c.args.first) +ℤ to_z w64 (of_z w64 c.args.step) *ℤ pos j) ≡ wrapped (c.args.first +ℤ c.args.step *ℤ pos j) =
    λ i. wrapped (to_z-of_z w64 c.args.first c.ranges.first i +ℤ to_z-of_z w64 c.args.step c.ranges.step i *ℤ pos j) in
    (subst (λ (z : ℤ). pos 0 ≤ℤ z) same inside.0, subst (λ (z : ℤ). z <ℤ pos c.args.extent) same inside.1)
