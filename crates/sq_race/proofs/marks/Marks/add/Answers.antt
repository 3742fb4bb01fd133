use Rattle.sq_race.proofs.Marking.{read_marked, written_marked}
use Rattle.sq_race.proofs.marks.Marks.add.Goals as goal

pub returns-in_ok-add : goal.returns-in_ok-add
returns-in_ok-add c = written_marked c.args.block.now c.args.writes c.args.self.now.read c.args.self.now.written c.add.new.self c.if-writes.true c.in_ok-add.ensures

pub returns-in_ok-add-2 : goal.returns-in_ok-add-2
returns-in_ok-add-2 c = read_marked c.args.block.now c.args.writes c.args.self.now.read c.add-else-writes.new.self c.args.self.now.written c.if-writes.false c.in_ok-add-2.ensures
