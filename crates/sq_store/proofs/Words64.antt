-- Sums that stop at the greatest number of 64 bits.
use Rattle.std.proofs.Common.{◌≡◌, ℕ, ◌-◌, ◌^◌, min, refl}
use Rattle.sq_nests.specs.Stacks.{capped}

pub capped_is : (n : ℕ) → min n (2 ^ 64 - 1) ≡ capped n
unfolding capped
capped_is n = refl
