use Rattle.sq_areas.proofs.Apart.{ends_first, begins_last}
use Rattle.sq_areas.proofs.areas.Area.meets.Goals as goal

pub returns-then-end-other-clause-none : goal.returns-then-end-other-clause-none
returns-then-end-other-clause-none c = λ e. ends_first c.args.self.now c.args.other.now c.end.result c.end.ensures c.if-end-other.true

pub returns-then-end-self-clause-none : goal.returns-then-end-self-clause-none
returns-then-end-self-clause-none c = λ e. begins_last c.args.self.now c.args.other.now c.end-2.result c.end-2.ensures c.if-end-self.true
