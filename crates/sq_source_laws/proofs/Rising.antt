-- Things that stand in a text one behind another: each is the first of its place.
use Rattle.std.proofs.Common.{◌≡◌, ◌≢◌, ℕ, inl, inr, Bool, true, false, if◌then◌else◌, ◌&&◌, ◌==◌, List, [], ◌∷◌, ◌++◌, Option, Some, None, refl, ◌∙◌, ap, arith}
use Rattle.std.specs.List.{AllByRecursion}
use Rattle.std.proofs.lemmas.Bool.Decides.{eqb_tells}
use Rattle.sq_text.specs.declared.place.Place.{Place}
use Rattle.sq_text.specs.Places.{IsBefore, is_same}

-- ---- what holds of each

pub each_both : {A : Type 0} {P Q R : A → Type 0} (xs : List A) → ((x : A) → P x → Q x → R x) → AllByRecursion P xs → AllByRecursion Q xs → AllByRecursion R xs
each_both [] both p q = tt
each_both (x ∷ xs) both p q = (both x p.0 q.0, each_both xs both p.1 q.1)

pub each_so : {A : Type 0} {P R : A → Type 0} (xs : List A) → ((x : A) → P x → R x) → AllByRecursion P xs → AllByRecursion R xs
each_so [] so p = tt
each_so (x ∷ xs) so p = (so x p.0, each_so xs so p.1)

pub each_append : {A : Type 0} (P : A → Type 0) (xs ys : List A) → AllByRecursion P xs → AllByRecursion P ys → AllByRecursion P (xs ++ ys)
each_append P [] ys p q = q
each_append P (x ∷ xs) ys p q = (p.0, each_append P xs ys p.1 q)

-- the first are some of the second, in their order
pub data Among {A : Type 0} : List A → List A → Type 0 where
  none : {ys : List A} → Among [] ys
  keep : {x : A} {xs ys : List A} → Among xs ys → Among (x ∷ xs) (x ∷ ys)
  skip : {y : A} {xs ys : List A} → Among xs ys → Among xs (y ∷ ys)

pub each_among : {A : Type 0} (P : A → Type 0) {xs ys : List A} → Among xs ys → AllByRecursion P ys → AllByRecursion P xs
each_among P none h = tt
each_among P (keep a) h = (h.0, each_among P a h.1)
each_among P (skip a) h = each_among P a h.1

-- ---- places

same_self : (n : ℕ) → (n == n) ≡ true
same_self n = elim (eqb_tells n n) [ inl h ↦ h.0 | inr h ↦ absurd (h.1 refl) ]

differ : (m n : ℕ) → m ≢ n → (m == n) ≡ false
differ m n other = elim (eqb_tells m n) [ inl h ↦ absurd (other h.1) | inr h ↦ h.0 ]

and_false : (a b : Bool) → b ≡ false → (a && b) ≡ false
and_false true b h = h
and_false false b h = refl

pub is_itself : (p : Place) → is_same p p ≡ true
is_itself p = ap (λ b. b && (p.col == p.col)) (same_self p.line) ∙ same_self p.col

pub is_another : (p q : Place) → IsBefore p q → is_same p q ≡ false
is_another p q (inl a) = ap (λ b. b && (p.col == q.col)) (differ p.line q.line (λ e. omega (arith, a, e)))
is_another p q (inr a) = and_false (p.line == q.line) (p.col == q.col) (differ p.col q.col (λ e. omega (arith, a.1, e)))

module _ {A : Type 0} (place : A → Place) where
  -- each stands before those that follow
  abbrev pub Rises : List A → Type 0
  Rises [] = Unit {0}
  Rises (x ∷ xs) = AllByRecursion (λ y. IsBefore (place x) (place y)) xs × Rises xs

  pub some_rise : {xs ys : List A} → Among xs ys → Rises ys → Rises xs
  some_rise none h = tt
  some_rise (keep {x = x} a) h = (each_among (λ y. IsBefore (place x) (place y)) a h.0, some_rise a h.1)
  some_rise (skip a) h = some_rise a h.1

  -- the first of them that stands there
  abbrev pub standing : List A → Place → Option A
  standing [] p = None
  standing (x ∷ xs) p = if is_same (place x) p then Some x else standing xs p

  -- it is the first of its place
  abbrev pub IsFound : List A → A → Type 0
  IsFound xs x = standing xs (place x) ≡ Some x

  pub found_behind : (x : A) (xs : List A) (y : A) → IsBefore (place x) (place y) → IsFound xs y → IsFound (x ∷ xs) y
  found_behind x xs y before h = ap (λ b. if b then Some x else standing xs (place y)) (is_another (place x) (place y) before) ∙ h

  pub each_found : (xs : List A) → Rises xs → AllByRecursion (IsFound xs) xs
  each_found [] h = tt
  each_found (x ∷ xs) h = (
    ap (λ b. if b then Some x else standing xs (place x)) (is_itself (place x)),
    each_both xs (found_behind x xs) h.0 (each_found xs h.1),
  )
