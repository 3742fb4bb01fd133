-- The keys of a set as others are inserted.
use Rattle.std.proofs.Common.{◌≡◌, ℕ, ◌⊎◌, inl, inr, Bool, true, false, ◌||◌, if◌then◌else◌, List, [], ◌∷◌, ◌++◌, nat_eq, refl, sym, ◌∙◌, ap, subst, true≢false, append_assoc}
use Rattle.std.proofs.lemmas.Bool.Decides.{eqb_tells}
use Rattle.std.proofs.lemmas.List.{append-nil}
use Rattle.std.proofs.lemmas.List.Folds.{list_any-append}
use Rattle.std.proofs.lemmas.Map.Keys.{IsDistinct-push}
use Rattle.std.specs.Cmp.{nat_eq_equiv}
use Rattle.std.specs.List.{IsDistinct}
use Rattle.sq_mapfile.specs.Graph.{has, with_one, with_all}

pub either : (a b : Bool) → (a || b) ≡ true → (a ≡ true) ⊎ (b ≡ true)
either true b h = inl refl
either false b h = inr h

pub first_is : (a b : Bool) → a ≡ true → (a || b) ≡ true
first_is true b h = refl
first_is false b h = cc

pub second_is : (a b : Bool) → b ≡ true → (a || b) ≡ true
second_is true b h = refl
second_is false b h = h

pub in_append : (xs ys : List ℕ) (x : ℕ) → has (xs ++ ys) x ≡ true → (has xs x ≡ true) ⊎ (has ys x ≡ true)
in_append xs ys x h = either (has xs x) (has ys x) (sym (list_any-append (nat_eq x) xs ys) ∙ h)

pub in_front : (xs ys : List ℕ) (x : ℕ) → has xs x ≡ true → has (xs ++ ys) x ≡ true
in_front xs ys x h = list_any-append (nat_eq x) xs ys ∙ first_is (has xs x) (has ys x) h

pub in_back : (xs ys : List ℕ) (x : ℕ) → has ys x ≡ true → has (xs ++ ys) x ≡ true
in_back xs ys x h = list_any-append (nat_eq x) xs ys ∙ second_is (has xs x) (has ys x) h

pub same : (x y : ℕ) → nat_eq x y ≡ true → x ≡ y
same x y h = elim (eqb_tells x y) [ inl p ↦ p.1 | inr p ↦ absurd (true≢false (sym h ∙ p.0)) ]

pub itself : (x : ℕ) → nat_eq x x ≡ true
itself x = elim (eqb_tells x x) [ inl p ↦ p.0 | inr p ↦ absurd (p.1 refl) ]

pub only : (x y : ℕ) → has (y ∷ []) x ≡ true → x ≡ y
only x y h = elim (either (nat_eq x y) false h) [ inl p ↦ same x y p | inr p ↦ absurd (true≢false (sym p)) ]

one_front : (b : Bool) (keys : List ℕ) (k : ℕ) → (more : List ℕ) × ((if b then keys else keys ++ k ∷ []) ≡ keys ++ more)
one_front true keys k = ([], sym (append-nil keys))
one_front false keys k = (k ∷ [], refl)

one_from : (b : Bool) (keys : List ℕ) (k x : ℕ) → has (if b then keys else keys ++ k ∷ []) x ≡ true → (has keys x ≡ true) ⊎ (x ≡ k)
one_from true keys k x h = inl h
one_from false keys k x h = elim (in_append keys (k ∷ []) x h) [ inl p ↦ inl p | inr p ↦ inr (only x k p) ]

one_there : (b : Bool) (keys : List ℕ) (k : ℕ) → has keys k ≡ b → has (if b then keys else keys ++ k ∷ []) k ≡ true
one_there true keys k e = e
one_there false keys k e = in_back keys (k ∷ []) k (first_is (nat_eq k k) false (itself k))

one_distinct : (b : Bool) (keys : List ℕ) (k : ℕ) → has keys k ≡ b → IsDistinct nat_eq keys → IsDistinct nat_eq (if b then keys else keys ++ k ∷ [])
one_distinct true keys k e h = h
one_distinct false keys k e h = IsDistinct-push nat_eq_equiv keys k h e

-- what is there stays in front
pub all_front : (keys xs : List ℕ) → (more : List ℕ) × (with_all keys xs ≡ keys ++ more)
all_front keys [] = ([], sym (append-nil keys))
all_front keys (x ∷ xs) =
    let one = one_front (has keys x) keys x in
    let rest = all_front (with_one keys x) xs in
    (one.0 ++ rest.0, rest.1 ∙ (ap (λ ks. ks ++ rest.0) one.1 ∙ append_assoc keys one.0 rest.0))

pub all_old : (keys xs : List ℕ) (x : ℕ) → has keys x ≡ true → has (with_all keys xs) x ≡ true
all_old keys xs x h = let f = all_front keys xs in subst (λ ks. has ks x ≡ true) (sym f.1) (in_front keys f.0 x h)

pub all_from : (keys xs : List ℕ) (x : ℕ) → has (with_all keys xs) x ≡ true → (has keys x ≡ true) ⊎ (has xs x ≡ true)
all_from keys [] x h = inl h
all_from keys (y ∷ ys) x h = elim (all_from (with_one keys y) ys x h) [
  | inl p ↦ elim (one_from (has keys y) keys y x p) [
    | inl q ↦ inl q
    | inr q ↦ inr (first_is (nat_eq x y) (has ys x) (subst (λ z. nat_eq x z ≡ true) q (itself x)))
  ]
  | inr p ↦ inr (second_is (nat_eq x y) (has ys x) p)
]

pub all_there : (keys xs : List ℕ) (x : ℕ) → has xs x ≡ true → has (with_all keys xs) x ≡ true
all_there keys [] x h = absurd (true≢false (sym h))
all_there keys (y ∷ ys) x h = elim (either (nat_eq x y) (has ys x) h) [
  | inl p ↦ all_old (with_one keys y) ys x (subst (λ z. has (with_one keys y) z ≡ true) (sym (same x y p)) (one_there (has keys y) keys y refl))
  | inr p ↦ all_there (with_one keys y) ys x p
]

pub all_distinct : (keys xs : List ℕ) → IsDistinct nat_eq keys → IsDistinct nat_eq (with_all keys xs)
all_distinct keys [] h = h
all_distinct keys (x ∷ xs) h = all_distinct (with_one keys x) xs (one_distinct (has keys x) keys x refl h)
