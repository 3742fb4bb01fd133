-- What stands in a list, by recursion on it.
use Rattle.std.proofs.Common.{◌≡◌, ℕ, zero, suc, ◌<◌, ◌⊎◌, inl, inr, List, [], ◌∷◌, ◌++◌, map, length, replicate, Some, Contains, refl, sym, subst, arith}
use Rattle.std.specs.List.{slice_get, flat_map, AllByRecursion}

abbrev pub In : {A : Type 0} → List A → A → Type 0
In [] x = ⊥
In (y ∷ ys) x = (y ≡ x) ⊎ In ys x

pub in_left : {A : Type 0} (xs ys : List A) (x : A) → In xs x → In (xs ++ ys) x
in_left [] ys x h = absurd h
in_left (z ∷ xs) ys x (inl h) = inl h
in_left (z ∷ xs) ys x (inr h) = inr (in_left xs ys x h)

pub in_right : {A : Type 0} (xs ys : List A) (x : A) → In ys x → In (xs ++ ys) x
in_right [] ys x h = h
in_right (z ∷ xs) ys x h = inr (in_right xs ys x h)

pub in_either : {A : Type 0} (xs ys : List A) (x : A) → In (xs ++ ys) x → In xs x ⊎ In ys x
in_either [] ys x h = inr h
in_either (z ∷ xs) ys x (inl h) = inl (inl h)
in_either (z ∷ xs) ys x (inr h) = elim (in_either xs ys x h) [ inl k ↦ inl (inr k) | inr k ↦ inr k ]

pub in_map : {A B : Type 0} (f : A → B) (xs : List A) (y : B) → In (map f xs) y → (x : A) × In xs x × (f x ≡ y)
in_map f [] y h = absurd h
in_map f (x ∷ xs) y (inl h) = (x, inl refl, h)
in_map f (x ∷ xs) y (inr h) = let k = in_map f xs y h in (k.0, inr k.1, k.2)

pub in_flat_map : {A B : Type 0} (f : A → List B) (xs : List A) (y : B) → In (flat_map f xs) y → (x : A) × In xs x × In (f x) y
in_flat_map f [] y h = absurd h
in_flat_map f (x ∷ xs) y h = elim (in_either (f x) (flat_map f xs) y h) [
  | inl k ↦ (x, inl refl, k)
  | inr k ↦ let m = in_flat_map f xs y k in (m.0, inr m.1, m.2)
]

pub flat_map_in : {A B : Type 0} (f : A → List B) (xs : List A) (x : A) (y : B) → In xs x → In (f x) y → In (flat_map f xs) y
flat_map_in f [] x y h k = absurd h
flat_map_in f (z ∷ xs) x y (inl h) k = in_left (f z) (flat_map f xs) y (subst (λ w. In (f w) y) (sym h) k)
flat_map_in f (z ∷ xs) x y (inr h) k = in_right (f z) (flat_map f xs) y (flat_map_in f xs x y h k)

pub in_replicate : {A : Type 0} (n : ℕ) (a x : A) → In (replicate n a) x → a ≡ x
in_replicate zero a x h = absurd h
in_replicate (suc n) a x (inl h) = h
in_replicate (suc n) a x (inr h) = in_replicate n a x h

-- ---- by index

pub contains_in : {A : Type 0} (xs : List A) (x : A) → In xs x → Contains xs x
contains_in [] x h = absurd h
contains_in (y ∷ ys) x (inl h) = (0, omega arith, h)
contains_in (y ∷ ys) x (inr h) = let k = contains_in ys x h in let lt = k.1 in (suc k.0, omega (arith, lt), k.2)

pub in_contains : {A : Type 0} (xs : List A) (x : A) → Contains xs x → In xs x
in_contains xs x h = at xs h.0 h.1 h.2
  where
    at : (xs : List _) (i : ℕ) → i < length xs → Rattle.std.specs.List.slice_index_or xs i x ≡ x → In xs x
    at [] i lt e = absurd (omega arith)
    at (y ∷ ys) zero lt e = inl e
    at (y ∷ ys) (suc i) lt e = inr (at ys i (omega arith) e)

-- ---- all of them

pub all_at : {A : Type 0} (P : A → Type 0) (xs : List A) → AllByRecursion P xs → (i : ℕ) (x : A) → slice_get xs i ≡ Some x → P x
all_at P [] h i x e = absurd (cc)
all_at P (y ∷ ys) h zero x e = let same : y ≡ x = cc in subst P same h.0
all_at P (y ∷ ys) h (suc i) x e = all_at P ys h.1 i x e

pub at_all : {A : Type 0} (P : A → Type 0) (xs : List A) → ((i : ℕ) (x : A) → slice_get xs i ≡ Some x → P x) → AllByRecursion P xs
at_all P [] h = tt
at_all P (y ∷ ys) h = (h 0 y refl, at_all P ys (λ i x e. h (suc i) x e))
