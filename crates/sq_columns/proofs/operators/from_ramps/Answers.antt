use Rattle.std.proofs.Common.{◌∙◌, sym, ap, w64, pos, ◌+ℤ◌, ◌*ℤ◌}
use Rattle.std.proofs.lemmas.Int.{wrapping_add_is, wrapping_sub_is}
use Rattle.sq_ast.specs.declared.expr.BinOp.{BinOp}
use Rattle.sq_leaf.specs.Numbers as spec
use Rattle.sq_columns.proofs.Wrapping.{sum_ramps, less_ramps}
use Rattle.sq_columns.proofs.operators.from_ramps.Goals as goal

pub returns-in-Add : goal.returns-in-Add
returns-in-Add c = λ zs j.
    sum_ramps c.args.a c.args.d c.args.b c.args.e _ _ (pos j) (wrapping_add_is w64 c.args.a c.args.b c.ranges.a c.ranges.b) (wrapping_add_is w64 c.args.d c.args.e c.ranges.d c.ranges.e)
    ∙ ap (λ (o : BinOp). spec.binary o (spec.wrapped (c.args.a +ℤ c.args.d *ℤ pos j)) (spec.wrapped (c.args.b +ℤ c.args.e *ℤ pos j))) (sym c.in-Add.is)

pub returns-in-Sub : goal.returns-in-Sub
returns-in-Sub c = λ zs j.
    less_ramps c.args.a c.args.d c.args.b c.args.e _ _ (pos j) (wrapping_sub_is w64 c.args.a c.args.b c.ranges.a c.ranges.b) (wrapping_sub_is w64 c.args.d c.args.e c.ranges.d c.ranges.e)
    ∙ ap (λ (o : BinOp). spec.binary o (spec.wrapped (c.args.a +ℤ c.args.d *ℤ pos j)) (spec.wrapped (c.args.b +ℤ c.args.e *ℤ pos j))) (sym c.in-Sub.is)
