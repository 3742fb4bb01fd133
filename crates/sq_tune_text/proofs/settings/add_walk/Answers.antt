use Rattle.std.proofs.Common.{[], ◌++◌, refl, slice_get}
use Rattle.sq_mapfile.specs.Chosen.{listed}
use Rattle.sq_report.proofs.Pieces.{adds_nothing, and_then, as_piece}
use Rattle.sq_tune_text.specs.Walk.{ways_text}
use Rattle.sq_tune_text.proofs.Walked.{next_instance, all_instances}
use Rattle.sq_tune_text.proofs.settings.add_walk.Goals as goal

pub loop-i-init : goal.loop-i-init
loop-i-init g c = ([], adds_nothing _ _ _, refl)

pub loop-i-preserved : goal.loop-i-preserved
loop-i-preserved g c =
    let so = c.loop-i.invariant in
    let all = c.args.choices.now.tunables in
    let x = c.index-list-i.result in
    let i = c.loop-i.i in (
      so.0 ++ ways_text x.name c.loop-i.left (listed (slice_get all i)),
      and_then so.1 (rw c.ways-ways.ensures at c.add_ways.ensures),
      rw (c.digits_past-left.ensures, c.ways-ways.ensures) (next_instance all c.args.digits c.loop-i.left c.args.list.now i x so.0 c.loop-i-test.true c.index-list-i.is so.2),
    )

pub returns : goal.returns
returns g c = let so = c.loop-i.invariant in as_piece (all_instances c.args.choices.now.tunables c.args.digits c.loop-i.left c.args.list.now c.loop-i.i so.0 c.loop-i-test.false so.2) so.1
