use Rattle.std.proofs.Common.{◌∙◌}
use Rattle.sq_deeds.proofs.Performing.{known_turns, carried_turns}
use Rattle.sq_deeds.proofs.perform.always.Goals as goal

pub returns-in-Known : goal.returns-in-Known
returns-in-Known c = c.put_known.ensures ∙ known_turns c.args.columns.now c.args.put.now c.in-Known.x c.in-Known.is c.args.turns 0 c.args.bytes.now

pub returns-in-Carried : goal.returns-in-Carried
returns-in-Carried c = c.carry.ensures ∙ carried_turns c.args.columns.now c.args.put.now c.in-Carried.carried c.in-Carried.is c.args.turns 0 c.args.bytes.now
