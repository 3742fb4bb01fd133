use Rattle.std.proofs.Common.{[], ◌++◌, refl, arith}
use Rattle.sq_report.proofs.Pieces.{adds_nothing, and_then, as_piece}
use Rattle.sq_tune_text.specs.Walk.{way_text}
use Rattle.sq_tune_text.proofs.Walked.{next_way, all_ways}
use Rattle.sq_tune_text.proofs.settings.add_ways.Goals as goal

pub loop-ways-init : goal.loop-ways-init
loop-ways-init g c = ([], adds_nothing _ _ _, refl)

pub loop-ways-preserved : goal.loop-ways-preserved
loop-ways-preserved g c =
    let so = c.loop-ways.invariant in (
      so.0 ++ way_text c.args.instance.now c.loop-ways.left c.ways-item.result,
      and_then so.1 c.add_way.ensures,
      rw c.past-left.ensures (next_way c.args.instance.now c.args.digits c.loop-ways.left c.args.list.now c.loop-ways.ways-index c.ways-item.result so.0 c.loop-ways-test.true c.ways-item.is so.2),
    )

pub returns : goal.returns
returns g c = let so = c.loop-ways.invariant in as_piece (all_ways c.args.instance.now c.args.digits c.loop-ways.left c.args.list.now c.loop-ways.ways-index so.0 (omega arith) so.2) so.1
