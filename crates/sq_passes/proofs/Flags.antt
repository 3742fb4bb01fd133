-- As many flags, none of them set.
use Rattle.std.proofs.Common.{◌≡◌, ℕ, zero, suc, ◌+◌, ◌<◌, Bool, false, List, [], ◌∷◌, ◌++◌, map, drop, length, refl}
use Rattle.std.proofs.Common.{sym, ap, ◌∙◌, arith}
use Rattle.sq_passes.specs.Choices.{in_buffer}

dropped : (xs : List Bool) (i : ℕ) → i < length xs → map in_buffer (drop i xs) ≡ false ∷ map in_buffer (drop (i + 1) xs)
dropped [] i h = absurd (omega (arith, h))
dropped (x ∷ xs) zero h = refl
dropped (x ∷ xs) (suc i) h =
    let next : suc (i + 1) ≡ suc i + 1 = omega arith in
    dropped xs i (omega (arith, h)) ∙ ap (λ (k : ℕ). false ∷ map in_buffer (drop k (x ∷ xs))) next

pushed : (xs ys : List Bool) (y : Bool) → (xs ++ y ∷ []) ++ ys ≡ xs ++ (y ∷ ys)
pushed [] ys y = refl
pushed (x ∷ xs) ys y = ap (λ l. x ∷ l) (pushed xs ys y)

pub one_more : (out old flags : List Bool) (i : ℕ) → i < length flags → out ≡ old ++ false ∷ [] → old
    ++ map in_buffer (drop i flags) ≡ map in_buffer flags
    → out ++ map in_buffer (drop (i + 1) flags) ≡ map in_buffer flags
one_more out old flags i less is before =
    ap (λ l. l ++ map in_buffer (drop (i + 1) flags)) is ∙ pushed old (map in_buffer (drop (i + 1) flags)) false
    ∙ ap (λ l. old ++ l) (sym (dropped flags i less)) ∙ before
