use Rattle.sq_areas.proofs.Laying.{area-of, area-near}
use Rattle.sq_areas.proofs.areas.Area.of_view.Goals as goal

pub returns-clause-same : goal.returns-clause-same
returns-clause-same c =
    area-of c.args.view.now c.width-width.result c.from.result c.settle-run.result c.as_slice.result.now c.as_slice-2.result.now c.new-steps.result c.put_steps.new.steps c.settle-run.new.steps c.width-width.ensures c.requires c.from.ensures c.as_slice.ensures.numbers c.as_slice-2.ensures.numbers c.new-steps.ensures c.in_ok-put_steps.ensures.alike c.settle-run.ensures.alike

pub returns-clause-near : goal.returns-clause-near
returns-clause-near c =
    area-near c.args.view.now c.width-width.result c.from.result c.settle-run.result c.as_slice.result.now c.as_slice-2.result.now c.new-steps.result c.put_steps.new.steps c.settle-run.new.steps c.width-width.ensures c.requires c.from.ensures c.as_slice.ensures.numbers c.as_slice-2.ensures.numbers c.new-steps.ensures c.in_ok-put_steps.ensures.alike c.settle-run.ensures.alike c.in_ok-put_steps.ensures.many c.settle-run.ensures.many c.settle-run.ensures.more
