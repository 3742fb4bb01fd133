use Rattle.std.proofs.Common.{rules}
use Rattle.sq_touches.proofs.Puts.{put_more, near_more}
use Rattle.sq_touches.proofs.put.+put_views.Goals as goal

pub returns-clause-put : goal.returns-clause-put
returns-clause-put t c =
    put_more c.args.touches.now c.push.new.self c.put_views.new.touches c.args.node c.args.flags.now c.flags_behind.result.now c.args.views.now c.in-Some.view.now c.in-Some.views.now c.in_ok-area.area c.way_by-way.result c.flag_of.result (search rules) c.flags_behind.ensures c.flag_of.ensures c.way_by-way.ensures c.in_ok-push.ensures.ok c.put_views.result c.in_ok-area.ensures.same c.put_views.ensures.put

pub returns-clause-near : goal.returns-clause-near
returns-clause-near t c =
    near_more c.args.touches.now c.push.new.self c.put_views.new.touches c.args.node c.args.flags.now c.flags_behind.result.now c.args.views.now c.in-Some.view.now c.in-Some.views.now c.in_ok-area.area c.way_by-way.result c.flag_of.result (search rules) c.flags_behind.ensures c.flag_of.ensures c.way_by-way.ensures c.in_ok-push.ensures.ok c.put_views.result c.in_ok-area.ensures.near c.put_views.ensures.near
