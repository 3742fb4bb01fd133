use Rattle.std.proofs.Common.{rules, ◌+◌, ◌-◌, ◌*◌, ◌∙◌, sym, subst, ℤ, w64, FitsSigned}
use Rattle.std.proofs.lemmas.Int.{to_z-of_z}
use Rattle.sq_num.specs.Elements.{width}
use Rattle.sq_leaf.specs.Places.{along}
use Rattle.sq_columns.specs.Lines.{line_at, IsSpot}
use Rattle.sq_columns.proofs.Inside.{spot_along}
use Rattle.sq_columns.proofs.indices.along_line.Goals as goal

pub returns-clause-each : goal.returns-clause-each
returns-clause-each c = λ at most f near spots j below.
    let fits : FitsSigned w64 c.apart.result = search rules in
    let inside = c.is_inside_line.ensures c.if-not-is_inside_line.false j below in
    let i = line_at c.args.index c.args.indices.now j in
    let x = line_at c.args.spots c.args.column.now j in
    subst (λ (z : ℤ). IsSpot at (width c.args.elem) ((c.args.extent - 1) * c.args.stride + most) (along i c.args.extent c.args.stride (f j)) z) (sym (c.moved.ensures.each j below))
    (spot_along at (width c.args.elem) most c.args.extent c.args.stride (f j) _ x i near (to_z-of_z w64 c.apart.result fits ∙ c.apart.ensures) inside.0 inside.1 (spots j below))
