-- Names that are put behind others, list by list.
use Rattle.std.proofs.Common.{◌≡◌, ℕ, zero, suc, ◌+◌, ◌<◌, List, [], ◌∷◌, ◌++◌, length, get_or, drop, refl, sym, ap, ◌∙◌, arith}
use Rattle.std.specs.Prelude.{if◌then◌else◌}
use Rattle.std.specs.List.{flat_map}
use Rattle.std.proofs.lemmas.List.Concat.{flat_map-cons}
use Rattle.sq_text.specs.Names.{Bytes}
use Rattle.sq_planfile.specs.Written.{has, firsts}

pub firsts_append : (ms xs ys : List Bytes) → firsts ms (xs ++ ys) ≡ firsts (firsts ms xs) ys
firsts_append ms [] ys = refl
firsts_append ms (x ∷ xs) ys = firsts_append (if has ms x then ms else ms ++ x ∷ []) xs ys

pub item : {X : Type 0} (xs : List X) (i : ℕ) (x : X) → i < length xs → x ≡ get_or xs i x → drop i xs ≡ x ∷ drop (i + 1) xs
item [] i x lt e = absurd (omega arith)
item (y ∷ xs) zero x lt e = ap (λ z. z ∷ xs) (sym e)
item (y ∷ xs) (suc i) x lt e = let k : suc i + 1 ≡ suc (i + 1) = omega arith in item xs i x (omega (arith, lt)) e ∙ ap (λ k. x ∷ drop k (y ∷ xs)) (sym k)

module _ {X : Type 0} (f : X → List Bytes) where
  -- the names of one item more
  pub firsts_next : (start so_far next : List Bytes) (xs : List X) (i : ℕ) (x : X) → i < length xs → x ≡ get_or xs i x → next ≡ firsts so_far (f x)
      → firsts so_far (flat_map f (drop i xs)) ≡ firsts start (flat_map f xs) → firsts next (flat_map f (drop (i + 1) xs)) ≡ firsts start (flat_map f xs)
  firsts_next start so_far next xs i x lt e en inv =
      let rest = drop (i + 1) xs in
      ap (λ ms. firsts ms (flat_map f rest)) en ∙ sym (firsts_append so_far (f x) (flat_map f rest))
      ∙ ap (firsts so_far) (sym (ap (flat_map f) (item xs i x lt e) ∙ flat_map-cons f x rest)) ∙ inv
