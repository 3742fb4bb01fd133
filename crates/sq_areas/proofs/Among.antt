-- Which numbers are among a list, and which of a list something holds.
use Rattle.std.proofs.Common.{◌≡◌, ℕ, zero, suc, ◌+◌, ◌<◌, ◌≤◌, Bool, true, false, ◌||◌, List, [], ◌∷◌, refl, ◌⊎◌, inl, inr, arith}
use Rattle.std.specs.Prelude.{nat_eq}
use Rattle.std.specs.List.{range_with_len}
use Rattle.std.proofs.lemmas.Bool.Decides.{nat_tests}
use Rattle.sq_ir.specs.Events.{is_among}

pub or_either : (u v : Bool) → (u || v) ≡ true → (u ≡ true) ⊎ (v ≡ true)
or_either true v h = inl refl
or_either false v h = inr h

pub or_left : (u v : Bool) → u ≡ true → (u || v) ≡ true
or_left true v h = refl
or_left false v h = cc

pub or_right : (u v : Bool) → v ≡ true → (u || v) ≡ true
or_right true v h = refl
or_right false v h = h

pub same_number : (j k : ℕ) → nat_eq j k ≡ true → j ≡ k
same_number j k h = grind (arith, nat_tests)

pub number_same : (j k : ℕ) → j ≡ k → nat_eq j k ≡ true
number_same j k h = grind (arith, nat_tests)

-- something holds of one of a list
abbrev pub Some_of : {X : Type 0} → (X → Type 0) → List X → Type 0
Some_of P [] = ⊥
Some_of P (x ∷ xs) = P x ⊎ Some_of P xs

pub range_in : (at len k : ℕ) → is_among (range_with_len at len) k ≡ true → (at ≤ k) × (k < at + len)
range_in at zero k h = cc
range_in at (suc len) k h = by (or_either (nat_eq k at) (is_among (range_with_len (at + 1) len) k) h) (range_in (at + 1) len k)
  where
    by : (nat_eq k at ≡ true) ⊎ (is_among (range_with_len (at + 1) len) k ≡ true) → (is_among (range_with_len (at + 1) len) k ≡ true → (at + 1 ≤ k) × (k < at + 1 + len)) → (at ≤ k) × (k < at + suc len)
    by (inl e) f = let s = same_number k at e in (omega (arith, s), omega (arith, s))
    by (inr i) f = let r = f i in (omega (arith, r.0), omega (arith, r.1))

pub in_range : (at len k : ℕ) → at ≤ k → k < at + len → is_among (range_with_len at len) k ≡ true
in_range at zero k h g = absurd (omega arith)
in_range at (suc len) k h g = by (nat_eq k at) refl (λ low. in_range (at + 1) len k low (omega (arith, g)))
  where
    by : (u : Bool) → nat_eq k at ≡ u → (at + 1 ≤ k → is_among (range_with_len (at + 1) len) k ≡ true) → (nat_eq k at || is_among (range_with_len (at + 1) len) k) ≡ true
    by true e f = or_left (nat_eq k at) _ e
    by false e f = or_right (nat_eq k at) _ (f (grind (arith, nat_tests, e, h)))
