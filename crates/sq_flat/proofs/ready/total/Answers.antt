use Rattle.std.proofs.Common.{rules, arith, ◌≡◌, ◌∙◌, ap, ap₂, ◌+◌, ◌*◌, ℕ, List, ◌∷◌, drop, map}
use Rattle.sq_rect.specs.declared.view.View.{View}
use Rattle.sq_leaf.specs.Views.{shape_of}
use Rattle.sq_flat.specs.Memory.{size, total}
use Rattle.sq_flat.specs.Checked.{are_lined}
use Rattle.sq_flat.proofs.Opened.{next_item}
use Rattle.sq_flat.proofs.Checks.{next_lined}
use Rattle.sq_flat.proofs.ready.total.Goals as goal

pub loop-view-preserved : goal.loop-view-preserved
loop-view-preserved c =
    let next : drop c.loop-view.view-index c.args.views.now ≡ c.view-item.result ∷ drop (c.loop-view.view-index + 1) c.args.views.now = next_item c.args.views.now c.loop-view.view-index c.view-item.result c.loop-view-test.true c.view-item.is in
    let its = next_lined c.loop-view.end (drop c.loop-view.view-index c.args.views.now) (drop (c.loop-view.view-index + 1) c.args.views.now) c.view-item.result next c.loop-view.invariant.lined in
    let bytes : c.width.result * c.elements.result ≡ size c.view-item.result = search rules in
    let rest : total (map shape_of (drop c.loop-view.view-index c.args.views.now)) ≡ size c.view-item.result + total (map shape_of (drop (c.loop-view.view-index + 1) c.args.views.now)) =
    ap (λ (vs : List View). total (map shape_of vs)) next in
    let from : c.view-item.result.at ≡ c.loop-view.end = its.here.from in
    record {
      sum = omega (arith, bytes, rest, c.loop-view.invariant.sum, from);
      lined = ap₂ (λ (a z : ℕ). are_lined (a + z) (drop (c.loop-view.view-index + 1) c.args.views.now)) from bytes ∙ its.behind;
    }
