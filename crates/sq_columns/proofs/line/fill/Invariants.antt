use Rattle.std.proofs.Common.{◌≡◌, ◌<◌, ℕ, pos, length, get_or}
use Rattle.sq_columns.proofs.line.fill.Given as goal

abbrev pub invariant-loop-j : goal.invariant-loop-j
invariant-loop-j l = record {
  size : length l.column ≡ length l.fn.column;
  done : (k : ℕ) → k < l.j → get_or l.column k (pos 0) ≡ l.x;
}
