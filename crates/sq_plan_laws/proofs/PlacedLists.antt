-- Lists that are made of a count and a function, and look-ups in lists that are joined.
use Rattle.std.proofs.Common.{◌≡◌, ℕ, zero, suc, ◌<◌, List, [], ◌∷◌, ◌++◌, length, map, get_or, refl, sym, ap, ap₂}
use Rattle.std.proofs.Common.{arith}
use Rattle.std.specs.Prelude.{Some, None, slice_get}
use Rattle.sq_plan_laws.specs.Codes.{listed}

pub listed_same : {A : Type 0} (n : ℕ) (f g : ℕ → A) → ((k : ℕ) → k < n → f k ≡ g k) → listed n f ≡ listed n g
listed_same zero f g h = refl
listed_same (suc n) f g h = ap₂ (λ x xs. x ∷ xs) (h 0 (omega arith))
    (listed_same n (λ k. f (suc k)) (λ k. g (suc k)) (λ k lt. h (suc k) (omega (arith, lt))))

pub listed_length : {A : Type 0} (n : ℕ) (f : ℕ → A) → length (listed n f) ≡ n
listed_length zero f = refl
listed_length (suc n) f = ap suc (listed_length n (λ k. f (suc k)))

-- a list by its items
pub listed_all : (l : List ℕ) (n : ℕ) → length l ≡ n → listed n (λ k. get_or l k 0) ≡ l
listed_all [] zero e = refl
listed_all [] (suc n) e = absurd (omega (arith, e))
listed_all (x ∷ l) zero e = absurd (omega (arith, e))
listed_all (x ∷ l) (suc n) e = ap (λ r. x ∷ r) (listed_all l n (omega (arith, e)))

pub at_left : {A B : Type 0} (f : A → B) (xs : List A) (ys : List B) (k : ℕ) (x : A) → slice_get xs k ≡ Some x
    → slice_get (map f xs ++ ys) k ≡ Some (f x)
at_left f [] ys k x e = cc
at_left f (y ∷ xs) ys zero x e = let z : y ≡ x = cc in ap (λ v. Some (f v)) z
at_left f (y ∷ xs) ys (suc k) x e = at_left f xs ys k x e

pub mapped : {A B : Type 0} (f : A → B) (xs : List A) (k : ℕ) (x : A) → slice_get xs k ≡ Some x → slice_get (map f xs) k
    ≡ Some (f x)
mapped f [] k x e = cc
mapped f (y ∷ xs) zero x e = let z : y ≡ x = cc in ap (λ v. Some (f v)) z
mapped f (y ∷ xs) (suc k) x e = mapped f xs k x e

pub mapped_none : {A B : Type 0} (f : A → B) (xs : List A) (k : ℕ) → slice_get xs k ≡ None → slice_get (map f xs) k
    ≡ None
mapped_none f [] k e = refl
mapped_none f (y ∷ xs) zero e = cc
mapped_none f (y ∷ xs) (suc k) e = mapped_none f xs k e

pub mapped_from : {A B : Type 0} (f : A → B) (xs : List A) (k : ℕ) (y : B) → slice_get (map f xs) k ≡ Some y → (x : A)
    × (slice_get xs k ≡ Some x) × (y ≡ f x)
mapped_from f [] k y e = cc
mapped_from f (x ∷ xs) zero y e = let z : f x ≡ y = cc in (x, refl, sym z)
mapped_from f (x ∷ xs) (suc k) y e = mapped_from f xs k y e

pub same_some : {A : Type 0} {x y : A} → Some x ≡ Some y → x ≡ y
same_some e = cc

pub there_below : {A : Type 0} (xs : List A) (k : ℕ) (x : A) → slice_get xs k ≡ Some x → k < length xs
there_below [] k x e = cc
there_below (y ∷ xs) zero x e = omega arith
there_below (y ∷ xs) (suc k) x e = let z = there_below xs k x e in omega (arith, z)
