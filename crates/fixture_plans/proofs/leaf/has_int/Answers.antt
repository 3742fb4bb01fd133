use Rattle.std.proofs.Common.{rules, ◌≡◌, length}
use Rattle.sq_ir.specs.DraftLeaves.{param_shape}
use Rattle.fixture_plans.proofs.Items.{one-item}
use Rattle.fixture_plans.proofs.leaf.has_int.Goals as goal

pub returns-in-len1 : goal.returns-in-len1
returns-in-len1 c = λ h numbers.
    let one : length c.as_slice.result.now ≡ 1 = search rules in
    one-item (param_shape numbers) c.args.variant.now.params c.as_slice.result.now c.param-item.result _
    c.as_slice.ensures one c.param-item.is (c.is_int.ensures h numbers)
