-- Where an item of two lists behind one another stands.
use Rattle.std.proofs.Common.{◌≡◌, ℕ, zero, suc, ◌+◌, List, [], ◌∷◌, ◌++◌, length, slice_get, Some, arith}

pub data Split {A : Type 0} (xs ys : List A) (i : ℕ) (x : A) : Type 0 where
  front : slice_get xs i ≡ Some x → Split xs ys i x
  behind : (j : ℕ) → i ≡ length xs + j → slice_get ys j ≡ Some x → Split xs ys i x

pub split : {A : Type 0} (xs ys : List A) (i : ℕ) (x : A) → slice_get (xs ++ ys) i ≡ Some x → Split xs ys i x
split [] ys i x h = behind i (omega arith) h
split (y ∷ xs) ys zero x h = front h
split (y ∷ xs) ys (suc i) x h = by (split xs ys i x h)
  where
    by : Split xs ys i x → Split (y ∷ xs) ys (suc i) x
    by (front e) = front e
    by (behind j n e) = behind j (omega (arith, n)) e
