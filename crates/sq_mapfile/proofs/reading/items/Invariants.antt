use Rattle.std.proofs.Common.{◌≡◌, ◌-◌}
use Rattle.sq_lexer.specs.declared.token.Sign.TheVariants as g
use Rattle.sq_patterns.specs.declared.pattern.Pattern.TheVariants as s
use Rattle.sq_patterns.specs.Reading.{until}
use Rattle.sq_mapfile.specs.Reading as spec
use Rattle.sq_mapfile.proofs.reading.items.Given as goal

abbrev pub invariant-loop-turn : goal.invariant-loop-turn
invariant-loop-turn l = spec.items l.tunables l.version l.fn.tokens ≡ until (s.Sign g.BraceClose) (spec.item l.tunables l.version) (l._turn-end - l._turn) l.found l.tokens
