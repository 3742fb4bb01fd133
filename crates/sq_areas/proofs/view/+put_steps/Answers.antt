use Rattle.std.proofs.Common.{rules}
use Rattle.sq_areas.proofs.Laying.{ok-to, puts-more, puts-many}
use Rattle.sq_areas.proofs.view.+put_steps.Goals as goal

pub returns-clause-alike : goal.returns-clause-alike
returns-clause-alike t c =
    ok-to c.put_steps.result _ _ (puts-more c.args.width c.args.steps.now c.put_step.new.steps c.put_steps.new.steps c.in-Some.extent.now c.in-Some-split_first.stride.now c.from.result c.from-2.result c.in-Some.extents.now c.in-Some-split_first.strides.now c.args.extents.now c.args.strides.now (search rules) (search rules) c.from.ensures c.from-2.ensures c.in_ok-put_step.ensures) c.put_steps.ensures.alike

pub returns-clause-many : goal.returns-clause-many
returns-clause-many t c =
    ok-to c.put_steps.result _ _ (puts-many c.args.width c.args.steps.now c.put_step.new.steps c.put_steps.new.steps c.in-Some.extent.now c.in-Some-split_first.stride.now c.from.result c.from-2.result c.in-Some.extents.now c.in-Some-split_first.strides.now c.args.extents.now c.args.strides.now (search rules) (search rules) c.from.ensures c.from-2.ensures c.in_ok-put_step.ensures) c.put_steps.ensures.many
