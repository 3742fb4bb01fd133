use Rattle.std.proofs.Common.{rules}
use Rattle.sq_deeds.specs.Loops.{carry_turn}
use Rattle.sq_deeds.proofs.Performing.{next_in_turn}
use Rattle.sq_deeds.proofs.carry.carry_each.Goals as goal

pub loop-j-preserved : goal.loop-j-preserved
loop-j-preserved c =
    next_in_turn (carry_turn c.args.columns.now c.args.to.elem c.args.op c.args.to.rise c.args.from.elem c.args.from.rise c.args.links.now) c.args.turns c.loop-j.j c.loop-j.bytes c.carry_one.new.bytes _ (search rules) c.carry_one.ensures c.loop-j.invariant
