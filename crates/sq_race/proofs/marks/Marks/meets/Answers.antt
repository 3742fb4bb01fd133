use Rattle.sq_race.proofs.Marking.{met_read, met_written}
use Rattle.sq_race.proofs.marks.Marks.meets.Goals as goal

pub returns-then-meets : goal.returns-then-meets
returns-then-meets c = met_read c.args.self.now c.args.block.now c.args.writes c.meets.result c.if-writes.true c.meets.ensures c.if-meets.true

pub returns-else-meets : goal.returns-else-meets
returns-else-meets c =
    met_written c.args.self.now c.args.block.now c.args.writes c.meets.result c.meets-else-meets.result c.if-writes.true c.meets.ensures c.if-meets.false c.meets-else-meets.ensures
