-- Pieces of lists.
use Rattle.std.proofs.Common.{◌≡◌, ℕ, zero, suc, ◌+◌, ◌<◌, Bool, true, List, [], ◌∷◌, take, drop, get_or}
use Rattle.std.proofs.Common.{slice_get, refl, sym, ap, ◌∙◌, arith}
use Rattle.std.specs.List.{list_all}
use Rattle.sq_spec.specs.Statements.{starts_from}
use Rattle.sq_pipe.specs.Hoist.Loops.{cut}
use Rattle.sq_pass_laws.proofs.Nests.{both}

take_at : {A : Type 0} (n : ℕ) (xs : List A) (t : ℕ) → t < n → slice_get (take n xs) t ≡ slice_get xs t
take_at zero xs t lt = absurd (omega (arith, lt))
take_at (suc n) [] t lt = refl
take_at (suc n) (x ∷ xs) zero lt = refl
take_at (suc n) (x ∷ xs) (suc t) lt = take_at n xs t (omega (arith, lt))

drop_at : {A : Type 0} (n : ℕ) (xs : List A) (i : ℕ) → slice_get (drop n xs) i ≡ slice_get xs (n + i)
drop_at zero xs i = let z : i ≡ 0 + i = omega arith in ap (slice_get xs) z
drop_at (suc n) [] i = refl
drop_at (suc n) (x ∷ xs) i =
    let z : suc (n + i) ≡ suc n + i = omega arith in drop_at n xs i ∙ ap (slice_get (x ∷ xs)) z

-- so many items of a list from the start-th on pass the test
pub record IsPiece {A : Type 0} (test : List A → Bool) (start count : ℕ) (all : List A) : Type 0 where
  pub piece : List A
  pub passes : test piece ≡ true
  pub at : (t : ℕ) → t < count → slice_get piece t ≡ slice_get all (start + t)

-- each piece of a list that is cut by counts
pub piece_of : {A : Type 0} (test : List A → Bool) (n : ℕ) (counts : List ℕ) (all rest : List A)
    → ((i : ℕ) → slice_get all (n + i) ≡ slice_get rest i) → list_all test (cut counts rest) ≡ true → (k : ℕ)
    → 0 < get_or counts k 0 → IsPiece test (get_or (starts_from n counts) k 0) (get_or counts k 0) all
piece_of test n [] all rest same e zero some = absurd (omega (arith, some))
piece_of test n [] all rest same e (suc k) some = absurd (omega (arith, some))
piece_of test n (c ∷ counts) all rest same e zero some = record {
  piece = take c rest;
  passes = (both (test (take c rest)) (list_all test (cut counts (drop c rest))) e).0;
  at = λ t lt. take_at c rest t lt ∙ sym (same t);
}
piece_of test n (c ∷ counts) all rest same e (suc k) some =
    piece_of test (n + c) counts all (drop c rest) (λ i.
    let z : n + c + i ≡ n + (c + i) = omega arith in
    ap (slice_get all) z ∙ same (c + i) ∙ sym (drop_at c rest i))
    (both (test (take c rest)) (list_all test (cut counts (drop c rest))) e).1 k some
