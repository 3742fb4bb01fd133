-- What holds of each item of a list, by recursion.
use Rattle.std.proofs.Common.{◌≡◌, ℕ, zero, suc, List, [], ◌∷◌, ◌++◌, map, slice_get, Some, subst, arith}
use Rattle.std.specs.List.{All, Contains}
use Rattle.sq_ast.specs.Grammar.{joined}

abbrev pub Each : {X : Type 0} → (X → Type 0) → List X → Type 0
Each P [] = Unit {0}
Each P (x ∷ xs) = P x × Each P xs

module _ {X : Type 0} (P : X → Type 0) where
  pub all : (xs : List X) → Each P xs → All P xs
  all [] h k d lt = absurd (omega (arith, lt))
  all (x ∷ xs) h zero d lt = h.0
  all (x ∷ xs) h (suc k) d lt = all xs h.1 k d (omega (arith, lt))

  pub each : (xs : List X) → All P xs → Each P xs
  each [] h = tt
  each (x ∷ xs) h = (h 0 x (omega arith), each xs (λ k d lt. h (suc k) d (omega (arith, lt))))

  pub left : (xs ys : List X) → Each P (xs ++ ys) → Each P xs
  left [] ys h = tt
  left (x ∷ xs) ys h = (h.0, left xs ys h.1)

  pub right : (xs ys : List X) → Each P (xs ++ ys) → Each P ys
  right [] ys h = h
  right (x ∷ xs) ys h = right xs ys h.1

  pub both : (xs ys : List X) → Each P xs → Each P ys → Each P (xs ++ ys)
  both [] ys h u = u
  both (x ∷ xs) ys h u = (h.0, both xs ys h.1 u)

  pub at : (xs : List X) (i : ℕ) (x : X) → Each P xs → slice_get xs i ≡ Some x → P x
  at [] i x h e = absurd (cc)
  at (y ∷ xs) zero x h e = let same : y ≡ x = cc in subst P same h.0
  at (y ∷ xs) (suc i) x h e = at xs i x h.1 e

  pub there : (xs : List X) (x : X) → Each P xs → Contains xs x → P x
  there [] x h (k, lt, e) = absurd (omega (arith, lt))
  there (y ∷ xs) x h (zero, lt, e) = subst P e h.0
  there (y ∷ xs) x h (suc k, lt, e) = there xs x h.1 (k, omega (arith, lt), e)

module _ {X Y : Type 0} where
  -- of each list that is joined
  pub of_joined : (P : Y → Type 0) (f : X → List Y) (xs : List X) → Each P (joined (map f xs)) → Each (λ x. Each P (f x)) xs
  of_joined P f [] h = tt
  of_joined P f (x ∷ xs) h = (left P (f x) (joined (map f xs)) h, of_joined P f xs (right P (f x) (joined (map f xs)) h))

  pub of_map : (P : Y → Type 0) (f : X → Y) (xs : List X) → Each P (map f xs) → Each (λ x. P (f x)) xs
  of_map P f [] h = tt
  of_map P f (x ∷ xs) h = (h.0, of_map P f xs h.1)

  pub to_map : (P : Y → Type 0) (f : X → Y) (xs : List X) → Each (λ x. P (f x)) xs → Each P (map f xs)
  to_map P f [] h = tt
  to_map P f (x ∷ xs) h = (h.0, to_map P f xs h.1)

pub every : {X : Type 0} (P Q : X → Type 0) → ((x : X) → P x → Q x) → (xs : List X) → Each P xs → Each Q xs
every P Q f [] h = tt
every P Q f (x ∷ xs) h = (f x h.0, every P Q f xs h.1)
