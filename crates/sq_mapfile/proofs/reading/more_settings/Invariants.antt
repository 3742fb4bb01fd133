use Rattle.std.proofs.Common.{◌≡◌, ◌-◌}
use Rattle.sq_lexer.specs.declared.token.Sign.TheVariants as g
use Rattle.sq_patterns.specs.declared.pattern.Pattern.TheVariants as s
use Rattle.sq_patterns.specs.Reading.{until}
use Rattle.sq_mapfile.specs.Reading as spec
use Rattle.sq_mapfile.proofs.reading.more_settings.Given as goal

abbrev pub invariant-loop-turn : goal.invariant-loop-turn
invariant-loop-turn l = spec.more_settings l.fn.tokens ≡ until (s.Sign g.Semi) spec.next_setting (l._turn-end - l._turn) l.found l.tokens
