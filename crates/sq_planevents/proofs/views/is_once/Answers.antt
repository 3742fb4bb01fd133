use Rattle.std.proofs.Common.{rules, ◌≡◌}
use Rattle.sq_planevents.specs.Twice as twice
use Rattle.sq_planevents.proofs.Spans.{ordered_small, ordered_once}
use Rattle.sq_planevents.proofs.views.is_once.Goals as goal

pub is_twice-is_twice-requires : goal.is_twice-is_twice-requires
is_twice-is_twice-requires c =
    let steps : c.put_steps.new.steps ≡ twice.turns_of c.args.view.now.extents c.args.view.now.strides = search rules in
    let slice : c.as_slice-3.result.now ≡ c.order.new.steps = search rules in
    ordered_small c.args.view.now c.put_steps.new.steps c.order.new.steps c.as_slice-3.result.now c.requires steps c.order.ensures slice

pub returns : goal.returns
returns c =
    let steps : c.put_steps.new.steps ≡ twice.turns_of c.args.view.now.extents c.args.view.now.strides = search rules in
    let slice : c.as_slice-3.result.now ≡ c.order.new.steps = search rules in
    ordered_once c.args.view.now c.put_steps.new.steps c.order.new.steps c.as_slice-3.result.now c.is_twice-is_twice.result steps c.order.ensures slice c.is_twice-is_twice.ensures.yes c.is_twice-is_twice.ensures.none
