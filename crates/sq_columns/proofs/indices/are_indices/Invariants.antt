use Rattle.std.proofs.Common.{◌<◌, ◌≤ℤ◌, ◌<ℤ◌, ℕ, pos, get_or}
use Rattle.sq_columns.proofs.indices.are_indices.Given as goal

abbrev pub invariant-loop-j : goal.invariant-loop-j
invariant-loop-j l = (k : ℕ) → k < l.j → (pos 0 ≤ℤ get_or l.xs k (pos 0)) × (get_or l.xs k (pos 0) <ℤ pos l.extent)
