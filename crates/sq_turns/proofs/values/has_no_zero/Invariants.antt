use Rattle.std.proofs.Common.{◌≡◌, ◌<◌, ℕ, false}
use Rattle.sq_leaf.specs.Numbers.{is_zero}
use Rattle.sq_columns.specs.Lines.{line_at}
use Rattle.sq_turns.proofs.values.has_no_zero.Given as goal

abbrev pub invariant-loop-j : goal.invariant-loop-j
invariant-loop-j l = (k : ℕ) → k < l.j → is_zero (line_at l.y l.ys k) ≡ false
