use Rattle.std.proofs.Common.{rules}
use Rattle.sq_deeds.proofs.Performing.{next_done}
use Rattle.sq_deeds.proofs.perform.each_turn.Goals as goal

pub loop-j-preserved : goal.loop-j-preserved
loop-j-preserved c =
    next_done c.args.columns.now c.args.deeds.now c.args.turns c.loop-j.j c.loop-j.bytes c.do_all.new.bytes _ (search rules) c.do_all.ensures c.loop-j.invariant
