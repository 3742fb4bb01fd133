use Rattle.std.proofs.Common.{rules}
use Rattle.sq_deeds.specs.Loops.{where_turn}
use Rattle.sq_deeds.proofs.Performing.{next_in_turn}
use Rattle.sq_deeds.proofs.tested.where_loop.Goals as goal

pub loop-j-preserved : goal.loop-j-preserved
loop-j-preserved c =
    next_in_turn (where_turn c.args.columns.now c.args.elem c.args.rise c.args.it) c.args.turns c.loop-j.j c.loop-j.bytes c.where_one.new.bytes _ (search rules) c.where_one.ensures c.loop-j.invariant
