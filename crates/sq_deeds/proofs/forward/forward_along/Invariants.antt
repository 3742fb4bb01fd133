use Rattle.std.proofs.Common.{◌≡◌, ℕ, ℤ, ◌+◌, ◌<◌, ◌≤◌, pos, length, get_or}
use Rattle.sq_num.specs.Elements.{cut}
use Rattle.sq_deeds.specs.Deeds.{number_at, along_links}
use Rattle.sq_deeds.proofs.forward.forward_along.Given as goal

abbrev pub invariant-loop-j : goal.invariant-loop-j
invariant-loop-j l = record {
  size : length l.columns ≡ length l.fn.columns;
  done : (i : ℕ) → i < l.j → get_or l.columns (l.x.from + i) (pos 0) ≡ along_links l.fn.columns l.links i (cut l.elem (number_at l.fn.columns l.x i));
  number : (i : ℕ) → l.j ≤ i → i < 256 → number_at l.columns l.x i ≡ number_at l.fn.columns l.x i;
  along : (i : ℕ) → l.j ≤ i → i < 256 → (z : ℤ) → along_links l.columns l.links i z ≡ along_links l.fn.columns l.links i z;
}
