-- Lines that are put one after another.
use Rattle.std.proofs.Common.{◌≡◌, ℕ, zero, suc, ◌+◌, ◌<◌, ◌≤◌, List, [], ◌∷◌, ◌++◌, length, get_or, drop, map, refl, sym, ap, ◌∙◌, arith}
use Rattle.sq_ast.specs.Canonical.{Adds, Spelling, all_of}
use Rattle.sq_planfile.proofs.Firsts.{item}

drop_all : {X : Type 0} (xs : List X) (i : ℕ) → length xs ≤ i → drop i xs ≡ []
drop_all [] zero le = refl
drop_all [] (suc i) le = refl
drop_all (x ∷ xs) zero le = absurd (omega (arith, le))
drop_all (x ∷ xs) (suc i) le = drop_all xs i (omega (arith, le))

module _ {X Y : Type 0} (f : X → Y) (spell : Y → Spelling) (xs : List X) where
  -- so far, and the lines from number i on
  abbrev pub Follow : (start so_far : List ℕ) → ℕ → Type 0
  Follow start so_far i = (later : List ℕ) → so_far ++ all_of (map spell (map f (drop i xs))) later ≡ start ++ all_of (map spell (map f xs)) later

  pub lines_next : (start so_far next : List ℕ) (i : ℕ) (x : X) → i < length xs → x ≡ get_or xs i x → Adds so_far next (spell (f x)) → Follow start so_far i
      → Follow start next (i + 1)
  lines_next start so_far next i x lt e adds inv later =
      adds (all_of (map spell (map f (drop (i + 1) xs))) later)
      ∙ ap (λ ys. so_far ++ all_of (map spell (map f ys)) later) (sym (item xs i x lt e)) ∙ inv later

  pub lines_end : (start so_far : List ℕ) (i : ℕ) → length xs ≤ i → Follow start so_far i → Adds start so_far (all_of (map spell (map f xs)))
  lines_end start so_far i le inv later = ap (λ ys. so_far ++ all_of (map spell (map f ys)) later) (sym (drop_all xs i le)) ∙ inv later
