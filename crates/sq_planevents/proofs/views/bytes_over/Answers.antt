use Rattle.std.proofs.Common.{rules, ◌≡◌, arith}
use Rattle.sq_num.specs.Elements as elements
use Rattle.sq_planevents.proofs.Spans.{span_wide, over_small}
use Rattle.sq_planevents.proofs.views.bytes_over.Goals as goal

pub span_of-requires : goal.span_of-requires
span_of-requires c =
    let e : c.as_slice.result.now ≡ c.args.view.now.extents = search rules in
    let f : c.as_slice-2.result.now ≡ c.args.view.now.strides = search rules in
    let n = span_wide c.args.view.now c.as_slice.result.now c.as_slice-2.result.now c.requires e f in
    omega (arith, n)

pub overflow_mul-result : goal.overflow_mul-result
overflow_mul-result c =
    let e : c.as_slice.result.now ≡ c.args.view.now.extents = search rules in
    let f : c.as_slice-2.result.now ≡ c.args.view.now.strides = search rules in
    let n = span_wide c.args.view.now c.as_slice.result.now c.as_slice-2.result.now c.requires e f in
    let s = c.span_of.ensures in
    let w : c.width-width.result ≡ elements.width c.args.view.now.elem = search rules in
    let m = over_small c.args.view.now.elem c.width-width.result c.span_of.result w (omega (arith, n, s)) in
    omega (arith, m)

pub overflow_add-result : goal.overflow_add-result
overflow_add-result c =
    let e : c.as_slice.result.now ≡ c.args.view.now.extents = search rules in
    let f : c.as_slice-2.result.now ≡ c.args.view.now.strides = search rules in
    let n = span_wide c.args.view.now c.as_slice.result.now c.as_slice-2.result.now c.requires e f in
    let s = c.span_of.ensures in
    let w : c.width-width.result ≡ elements.width c.args.view.now.elem = search rules in
    let m = over_small c.args.view.now.elem c.width-width.result c.span_of.result w (omega (arith, n, s)) in
    omega (arith, m)

pub returns-clause-small : goal.returns-clause-small
returns-clause-small c =
    let e : c.as_slice.result.now ≡ c.args.view.now.extents = search rules in
    let f : c.as_slice-2.result.now ≡ c.args.view.now.strides = search rules in
    let n = span_wide c.args.view.now c.as_slice.result.now c.as_slice-2.result.now c.requires e f in
    let s = c.span_of.ensures in
    let w : c.width-width.result ≡ elements.width c.args.view.now.elem = search rules in
    over_small c.args.view.now.elem c.width-width.result c.span_of.result w (omega (arith, n, s))
