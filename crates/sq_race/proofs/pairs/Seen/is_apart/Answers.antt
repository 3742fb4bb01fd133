use Rattle.std.proofs.Common.{◌∙◌, sym}
use Rattle.sq_race.proofs.Steps.{none_found, not_true}
use Rattle.sq_race.proofs.pairs.Seen.is_apart.Goals as goal

pub returns : goal.returns
returns c = λ e.
    none_found c.args.map.now c.args.uses.now c.args.later c.args.self.now.since c.args.self.now.marks.items c.nth.result.now c.requires.ready c.nth.ensures (sym c.may_race.ensures.is ∙ not_true c.may_race.result e) c.may_race.ensures.bounded

pub may_race-requires : goal.may_race-requires
may_race-requires c = c.requires.arrays.at c.args.later c.nth.result.now c.nth.ensures
