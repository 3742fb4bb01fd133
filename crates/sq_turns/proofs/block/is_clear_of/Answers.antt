use Rattle.sq_turns.proofs.Meeting.{clear_rise}
use Rattle.sq_turns.proofs.block.is_clear_of.Goals as goal

pub returns-in-Some : goal.returns-in-Some
returns-in-Some c = λ clear. clear_rise c.args.write.now c.args.turns c.args.elem c.args.spots c.args.column.now c.in-Some.rise c.in-Some.ensures c.requires.few (c.is_clear_rise.ensures clear)
