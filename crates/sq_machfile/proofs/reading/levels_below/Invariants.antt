use Rattle.std.proofs.Common.{◌≡◌, ◌-◌}
use Rattle.sq_patterns.specs.declared.pattern.Pattern.TheVariants as s
use Rattle.sq_patterns.specs.Reading.{until}
use Rattle.sq_machfile.specs.Reading as spec
use Rattle.sq_machfile.proofs.reading.levels_below.Given as goal

abbrev pub invariant-loop-turn : goal.invariant-loop-turn
invariant-loop-turn l = spec.levels_below l.fn.tokens ≡ until s.End spec.below (l._turn-end - l._turn) l.found l.tokens
