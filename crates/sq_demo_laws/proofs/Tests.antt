-- Tests of lists.
use Rattle.std.proofs.Common.{◌≡◌, inl, inr, ℕ, zero, suc, ◌≤◌, Bool, true, false, ◌&&◌, not, leb, List, [], ◌∷◌, Some, refl, subst, slice_get}
use Rattle.std.specs.List.{list_all}
use Rattle.std.proofs.lemmas.Bool.Decides.{leb_tells}

pub both : (a b : Bool) → (a && b) ≡ true → (a ≡ true) × (b ≡ true)
both true b h = (refl, h)
both false b h = cc

pub and_true : (a b : Bool) → a ≡ true → b ≡ true → (a && b) ≡ true
and_true true b h k = k
and_true false b h k = cc

pub isnt : (a : Bool) → not a ≡ true → a ≡ false
isnt true h = cc
isnt false h = refl

pub at_most : (a b : ℕ) → leb a b ≡ true → a ≤ b
at_most a b h = elim (leb_tells a b) [ inl t ↦ t.1 | inr t ↦ cc ]

-- what holds of all holds of each
pub passes : {X : Type 0} (p : X → Bool) (xs : List X) → list_all p xs ≡ true → (i : ℕ) (x : X)
    → slice_get xs i ≡ Some x
    → p x ≡ true
passes p [] h i x e = cc
passes p (y ∷ xs) h zero x e =
    let is : y ≡ x = cc in subst (λ z. p z ≡ true) is (both (p y) (list_all p xs) h).0
passes p (y ∷ xs) h (suc i) x e = passes p xs (both (p y) (list_all p xs) h).1 i x e
