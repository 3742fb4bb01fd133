use Rattle.std.proofs.Common.{ap, length}
use Rattle.sq_race.proofs.Shares.{as_shares, unlike_test}
use Rattle.sq_race.proofs.map.share.Goals as goal

pub returns-then-as_slice : goal.returns-then-as_slice
returns-then-as_slice c = as_shares c.args.a.now c.args.b.now c.overlap.result c.overlap.ensures.shares

pub returns-else-as_slice : goal.returns-else-as_slice
returns-else-as_slice c = unlike_test c.args.a.now c.args.b.now _ _ (ap length c.as_slice.ensures.spans) (ap length c.as_slice-2.ensures.spans) c.if-as_slice.false
