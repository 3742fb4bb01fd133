use Rattle.std.proofs.Common.{◌≡◌, ◌-◌}
use Rattle.sq_patterns.specs.declared.pattern.Pattern.TheVariants as s
use Rattle.sq_patterns.specs.Reading.{until}
use Rattle.sq_costs.specs.Reading as spec
use Rattle.sq_costs.proofs.reading.entries_from.Given as goal

abbrev pub invariant-loop-turn : goal.invariant-loop-turn
invariant-loop-turn l = spec.entries_from l.fn.first l.fn.tokens ≡ until s.End spec.entry (l._turn-end - l._turn) l.found l.tokens
