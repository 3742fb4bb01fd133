-- Lists of which each item has what is asked, and buffers in scope.
use Rattle.std.proofs.Common.{◌≡◌, ℕ, zero, suc, Bool, true, false, List, [], ◌∷◌, ◌++◌, map}
use Rattle.std.proofs.Common.{slice_get, Some, refl, subst, arith, Contains, All, if◌then◌else◌}
use Rattle.std.specs.List.{list_any}
use Rattle.std.proofs.lemmas.List.Elements.{Contains-append_left, Contains-append_right}
use Rattle.sq_spec.specs.declared.statement.CallInstance.{CallInstance}
use Rattle.sq_term.specs.Terms.{is_same_arm, with_arm, arms_from, arms_of}

abbrev pub Every : {A : Type 0} → (A → Type 0) → List A → Type 0
Every P [] = Unit {0}
Every P (x ∷ xs) = P x × Every P xs

module _ {A : Type 0} (P : A → Type 0) where
  pub every_append : (xs ys : List A) → Every P xs → Every P ys → Every P (xs ++ ys)
  every_append [] ys h g = g
  every_append (x ∷ xs) ys h g = (h.0, every_append xs ys h.1 g)

  pub every_left : (xs ys : List A) → Every P (xs ++ ys) → Every P xs
  every_left [] ys h = tt
  every_left (x ∷ xs) ys h = (h.0, every_left xs ys h.1)

  pub every_right : (xs ys : List A) → Every P (xs ++ ys) → Every P ys
  every_right [] ys h = h
  every_right (x ∷ xs) ys h = every_right xs ys h.1

  pub every_at : (xs : List A) (i : ℕ) (x : A) → Every P xs → slice_get xs i ≡ Some x → P x
  every_at [] i x h e = cc
  every_at (y ∷ xs) zero x h e = let g : y ≡ x = cc in subst P g h.0
  every_at (y ∷ xs) (suc i) x h e = every_at xs i x h.1 e

  pub every_by : (xs : List A) → ((i : ℕ) (x : A) → slice_get xs i ≡ Some x → P x) → Every P xs
  every_by [] h = tt
  every_by (x ∷ xs) h = (h 0 x refl, every_by xs (λ i y e. h (suc i) y e))

  pub every_all : (xs : List A) → Every P xs → All P xs
  every_all [] h k d l = absurd (omega (arith, l))
  every_all (x ∷ xs) h zero d l = h.0
  every_all (x ∷ xs) h (suc k) d l = every_all xs h.1 k d (omega (arith, l))

  pub every_map : {B : Type 0} (Q : B → Type 0) (f : B → A) → ((x : B) → Q x → P (f x)) → (xs : List B) → Every Q xs
      → Every P (map f xs)
  every_map Q f h [] g = tt
  every_map Q f h (x ∷ xs) g = (h x g.0, every_map Q f h xs g.1)

pub every_less : {A : Type 0} (P Q : A → Type 0) → ((x : A) → P x → Q x) → (xs : List A) → Every P xs → Every Q xs
every_less P Q h [] g = tt
every_less P Q h (x ∷ xs) g = (h x g.0, every_less P Q h xs g.1)

-- ---- the arms of a call are rows of its table

module _ (P : CallInstance → Type 0) where
  with_arm_every : (qs : List CallInstance) (r : CallInstance) → Every P qs → P r → Every P (with_arm qs r)
  with_arm_every qs r h p = go (list_any (is_same_arm r) qs)
    where
      go : (b : Bool) → Every P (if b then qs else qs ++ r ∷ [])
      go true = h
      go false = every_append P qs (r ∷ []) h (p, tt)

  arms_from_every : (qs rest : List CallInstance) → Every P qs → Every P rest → Every P (arms_from qs rest)
  arms_from_every qs [] h g = h
  arms_from_every qs (r ∷ rest) h g = arms_from_every (with_arm qs r) rest (with_arm_every qs r h g.0) g.1

  pub arms_every : (times : List CallInstance) → Every P times → Every P (arms_of times)
  arms_every times h = arms_from_every [] times tt h

-- ---- buffers in scope

-- what is in scope outside is so inside
abbrev pub Among : List ℕ → List ℕ → Type 0
Among xs ys = (b : ℕ) → Contains xs b → Contains ys b

pub among_left : (xs ys : List ℕ) → Among xs (xs ++ ys)
among_left xs ys b h = Contains-append_left xs ys b h

pub among_right : (xs ys : List ℕ) → Among ys (xs ++ ys)
among_right xs ys b h = Contains-append_right xs ys b h

pub first_there : (b : ℕ) (bs : List ℕ) → Contains (b ∷ bs) b
first_there b bs = (0, omega arith, refl)

pub later_there : (x b : ℕ) (bs : List ℕ) → Contains bs b → Contains (x ∷ bs) b
later_there x b bs (k, h, is) = (suc k, omega (arith, h), is)
