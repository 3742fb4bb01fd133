-- Sums that stop at the greatest number of 64 bits.
use Rattle.std.proofs.Common.{◌≡◌, ℕ, ◌+◌, ◌-◌, ◌^◌, ◌<◌, min, refl, arith}
use Rattle.sq_nests.specs.Stacks.{capped}

pub capped_is : (n : ℕ) → min n (2 ^ 64 - 1) ≡ capped n
unfolding capped
capped_is n = refl

pub capped_word : (n : ℕ) → n < 2 ^ 64 → n ≡ capped (n + 0)
unfolding capped
capped_word n h = omega (arith, h)

pub capped_step : (m n : ℕ) → capped (capped m + n) ≡ capped (m + n)
unfolding capped
capped_step m n = omega arith
