use Rattle.std.proofs.Common.{◌≡◌, ◌+◌, drop}
use Rattle.sq_patterns.specs.Reading.{fitting}
use Rattle.sq_patterns.proofs.cursor.count_fitting.Given as goal

abbrev pub invariant-loop-i : goal.invariant-loop-i
invariant-loop-i l = fitting l.patterns l.tokens ≡ l.i + fitting (drop l.i l.patterns) (drop l.i l.tokens)
