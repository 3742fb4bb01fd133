-- The walk over names from the last one to the first.
use Rattle.std.proofs.Common.{◌≡◌, ℕ, zero, suc, ◌-◌, ◌<◌, ◌≤◌, ◌&&◌, Option, None, List, [], ◌∷◌, length, get_or, drop, refl, sym, ap, ap₂, ◌∙◌, arith}
use Rattle.sq_ir.specs.Written.{Setting}
use Rattle.sq_rooms.specs.declared.named.Named.{Named}
use Rattle.sq_rooms.specs.Rivals.{is_rival, lesser_if, start_with, start, begins_in, before}

-- from the i-th name on
pub record IsBefore (s : Setting) (l : Named) (found : Option ℕ) (xs : List Named) (i : ℕ) (first best : Option ℕ) : Type 0 where
  pub within : i ≤ length xs
  pub first_is : first ≡ start l (drop i xs)
  pub best_is : best ≡ before s l found (drop i xs)

drop-name : (xs : List Named) (i : ℕ) (x : Named) → i < length xs → x ≡ get_or xs i x → drop i xs ≡ x ∷ drop (suc i) xs
drop-name [] i x l e = absurd (omega arith)
drop-name (y ∷ xs) zero x l e = ap (λ z. z ∷ xs) (sym e)
drop-name (y ∷ xs) (suc i) x l e = drop-name xs i x (omega arith) e

drop-end : (xs : List Named) → drop (length xs) xs ≡ []
drop-end [] = refl
drop-end (x ∷ xs) = drop-end xs

module _ (s : Setting) (l : Named) (found : Option ℕ) (xs : List Named) where
  pub before-start : IsBefore s l found xs (length xs) None found
  before-start = record { within = omega arith; first_is = sym (ap (start l) (drop-end xs)); best_is = sym (ap (before s l found) (drop-end xs)) }

  pub before-more : (i : ℕ) (x : Named) (first best first_now best_now : Option ℕ) → 0 < i → IsBefore s l found xs i first best → x ≡ get_or xs (i - 1) x
      → best_now ≡ lesser_if (begins_in first x && is_rival s l x) best x.buffer → first_now ≡ start_with l first x → IsBefore s l found xs (i - 1) first_now best_now
  before-more i x first best first_now best_now pos inv at b f =
      let le = inv.within in
      let k : suc (i - 1) ≡ i = omega (arith, pos) in
      let d = drop-name xs (i - 1) x (omega (arith, pos, le)) at ∙ ap (λ j. x ∷ drop j xs) k in
      record {
        within = omega (arith, le);
        first_is = f ∙ ap (λ o. start_with l o x) inv.first_is ∙ sym (ap (start l) d);
        best_is = b ∙ ap₂ (λ o p. lesser_if (begins_in o x && is_rival s l x) p x.buffer) inv.first_is inv.best_is ∙ sym (ap (before s l found) d);
      }
