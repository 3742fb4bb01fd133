use Rattle.std.proofs.Common.{◌≡◌, ◌<◌, ◌≤◌, ℕ, pos, length, get_or}
use Rattle.sq_leaf.specs.Numbers as spec
use Rattle.sq_columns.specs.Lines.{line_at}
use Rattle.sq_columns.proofs.operators.binary_each.Given as goal

abbrev pub invariant-loop-j : goal.invariant-loop-j
invariant-loop-j l = record {
  size : length l.xs ≡ length l.fn.xs;
  done : (k : ℕ) → k < l.j → get_or l.xs k (pos 0) ≡ spec.binary l.op (get_or l.fn.xs k (pos 0)) (line_at l.y l.ys k);
  left : (k : ℕ) → l.j ≤ k → get_or l.xs k (pos 0) ≡ get_or l.fn.xs k (pos 0);
}
