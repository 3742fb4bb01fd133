use Rattle.std.proofs.Common.{◌≡◌, ◌<◌, ◌≤◌, ℕ, pos, length, get_or}
use Rattle.sq_columns.specs.Lines.{line_at, moved}
use Rattle.sq_columns.proofs.indices.move_each.Given as goal

abbrev pub invariant-loop-j : goal.invariant-loop-j
invariant-loop-j l = record {
  size : length l.column ≡ length l.fn.column;
  done : (k : ℕ) → k < l.j → get_or l.column k (pos 0) ≡ moved l.by (line_at l.spots l.fn.column k) (line_at l.index l.indices k);
  left : (k : ℕ) → l.j ≤ k → get_or l.column k (pos 0) ≡ get_or l.fn.column k (pos 0);
}
