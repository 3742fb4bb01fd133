use Rattle.std.proofs.Common.{◌≡◌, ◌<◌, ◌≤◌, ℕ, pos, length, get_or}
use Rattle.std.specs.Int.{int_min}
use Rattle.sq_columns.proofs.operators.least_each.Given as goal

abbrev pub invariant-loop-j : goal.invariant-loop-j
invariant-loop-j l = record {
  size : length l.xs ≡ length l.fn.xs;
  done : (k : ℕ) → k < l.j → get_or l.xs k (pos 0) ≡ int_min (get_or l.fn.xs k (pos 0)) (get_or l.ys k (pos 0));
  left : (k : ℕ) → l.j ≤ k → get_or l.xs k (pos 0) ≡ get_or l.fn.xs k (pos 0);
}
