use Rattle.sq_touches.proofs.Puts.{row_shown}
use Rattle.sq_touches.proofs.put.row.Goals as goal

pub returns-clause-shows : goal.returns-clause-shows
returns-clause-shows c = row_shown c.args.node c.args.at c.args.bytes c.from.result c.args.way c.new.result c.from.ensures c.new.ensures
