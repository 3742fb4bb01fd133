use Rattle.std.proofs.Common.{rules, ◌≡◌, length}
use Rattle.sq_ir.specs.DraftLeaves.{param_shape}
use Rattle.fixture_plans.proofs.Items.{three-items}
use Rattle.fixture_plans.proofs.leaf.has_squares.Goals as goal

pub returns-in-len3 : goal.returns-in-len3
returns-in-len3 c = λ h numbers.
    let three : length c.as_slice.result.now ≡ 3 = search rules in
    let all = c.are_squares.ensures h numbers in
    three-items (param_shape numbers) c.args.variant.now.params c.as_slice.result.now c.a-item.result c.b-item.result
    c.c-item.result _ _ _ c.as_slice.ensures three c.a-item.is c.b-item.is c.c-item.is all.first all.second
    all.third
