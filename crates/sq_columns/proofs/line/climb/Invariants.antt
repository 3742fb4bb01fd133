use Rattle.std.proofs.Common.{◌≡◌, ◌<◌, ℕ, pos, ◌+ℤ◌, ◌*ℤ◌, length, get_or}
use Rattle.sq_leaf.specs.Numbers.{wrapped}
use Rattle.sq_columns.proofs.line.climb.Given as goal

abbrev pub invariant-loop-j : goal.invariant-loop-j
invariant-loop-j l = record {
  size : length l.column ≡ length l.fn.column;
  next : l.x ≡ wrapped (l.fn.first +ℤ l.step *ℤ pos l.j);
  done : (k : ℕ) → k < l.j → get_or l.column k (pos 0) ≡ wrapped (l.fn.first +ℤ l.step *ℤ pos k);
}
