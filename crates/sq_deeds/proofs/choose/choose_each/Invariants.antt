use Rattle.std.proofs.Common.{◌≡◌, ℕ, ◌+◌, ◌<◌, ◌≤◌, pos, length, get_or}
use Rattle.sq_deeds.specs.Deeds.{number_at}
use Rattle.sq_deeds.specs.Loops.{chosen}
use Rattle.sq_deeds.proofs.choose.choose_each.Given as goal

abbrev pub invariant-loop-j : goal.invariant-loop-j
invariant-loop-j l = record {
  size : length l.columns ≡ length l.fn.columns;
  done : (i : ℕ) → i < l.j → get_or l.columns (l.test.from + i) (pos 0) ≡ chosen (number_at l.fn.columns l.test i) (number_at l.fn.columns l.x i) (number_at l.fn.columns l.y i);
  test : (i : ℕ) → l.j ≤ i → i < 256 → number_at l.columns l.test i ≡ number_at l.fn.columns l.test i;
  left : (i : ℕ) → l.j ≤ i → i < 256 → number_at l.columns l.x i ≡ number_at l.fn.columns l.x i;
  right : (i : ℕ) → l.j ≤ i → i < 256 → number_at l.columns l.y i ≡ number_at l.fn.columns l.y i;
}
