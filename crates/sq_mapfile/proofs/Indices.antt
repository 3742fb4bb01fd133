-- What is found first in a list.
use Rattle.std.proofs.Common.{◌≡◌, ℕ, zero, suc, ◌+◌, ◌^◌, ◌<◌, Bool, true, false, List, [], ◌∷◌, length, Option, Some, None, is_none, refl, arith, ltb, if◌then◌else◌}
use Rattle.std.specs.List.{slice_get}
use Rattle.sq_mapping.specs.Names.{first_from}
use Rattle.sq_mapfile.specs.Resolving.{or_zero}

-- the item at an index from i on passes the test
pub record At {A : Type 0} (test : A → Bool) (i k : ℕ) (xs : List A) : Type 0 where
  pub offset : ℕ
  pub is : k ≡ i + offset
  pub item : A
  pub there : slice_get xs offset ≡ Some item
  pub passes : test item ≡ true

found_at_head : {A : Type 0} (test : A → Bool) (i k : ℕ) (x : A) (rest : List A) (b : Bool) → test x ≡ b
    → (first_from test (suc i) rest ≡ Some k → At test (suc i) k rest) → (if b then Some i else first_from test (suc i) rest) ≡ Some k → At test i k (x ∷ rest)
found_at_head test i k x rest true e again h = let same : i ≡ k = cc in record { offset = 0; is = omega arith; item = x; there = refl; passes = e }
found_at_head test i k x rest false e again h = let at = again h in record { offset = suc at.offset; is = omega (arith, at.is); item = at.item; there = at.there; passes = at.passes }

pub found_at : {A : Type 0} (test : A → Bool) (i k : ℕ) (xs : List A) → first_from test i xs ≡ Some k → At test i k xs
found_at test i k [] h = absurd (cc)
found_at test i k (x ∷ rest) h = found_at_head test i k x rest (test x) refl (found_at test (suc i) k rest) h

get_below : {A : Type 0} (xs : List A) (k : ℕ) (x : A) → slice_get xs k ≡ Some x → k < length xs
get_below [] k x h = absurd (cc)
get_below (y ∷ xs) zero x h = omega arith
get_below (y ∷ xs) (suc k) x h = omega (arith, get_below xs k x h)

pub found_below : {A : Type 0} (test : A → Bool) (xs : List A) (k : ℕ) → first_from test 0 xs ≡ Some k → k < length xs
found_below test xs k h = let at = found_at test 0 k xs h in omega (arith, get_below xs at.offset at.item at.there, at.is)

-- ---- as an index

small : (i : ℕ) → i < 2 ^ 32 → ltb i (2 ^ 32) ≡ true
small i h = search arith

some_index : (o : Option ℕ) → ((k : ℕ) → o ≡ Some k → k < 2 ^ 32) → is_none o ≡ false → o ≡ Some (or_zero o)
some_index None below h = absurd (cc)
some_index (Some i) below h = rw (small i (below i refl)) refl

pub index_is : {A : Type 0} (test : A → Bool) (xs : List A) → length xs < 2 ^ 32 → is_none (first_from test 0 xs) ≡ false
    → first_from test 0 xs ≡ Some (or_zero (first_from test 0 xs))
index_is test xs few h = some_index (first_from test 0 xs) (λ k e. omega (arith, found_below test xs k e, few)) h
