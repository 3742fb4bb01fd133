-- No two accesses of the demo's forms race.
use Rattle.std.proofs.Common.{◌≡◌, ◌⊎◌, inl, inr, ℕ, ◌<◌, ◌≤◌, Bool, true, false, not, ◌&&◌, ◌||◌, eqb, ltb, List, [], ◌∷◌, Some, refl, ap, arith, slice_get}
use Rattle.std.specs.List.{list_all}
use Rattle.std.proofs.lemmas.Bool.Decides.{Decides-eqb, Decides-ltb}
use Rattle.sq_text.specs.declared.place.Span.{Span}
use Rattle.sq_rect.specs.Blocks.{Covers, Share}
use Rattle.sq_ast.specs.declared.program.Mode.{Mode}
use Rattle.sq_ast.specs.declared.program.Mode.TheVariants.{Input, Output, Both}
use Rattle.sq_forms.specs.declared.form.Use.{Use}
use Rattle.sq_demo_laws.specs.FormsFound.{all_uses_from}
use Rattle.sq_demo_laws.proofs.Tests.{passes}

abbrev pub writes : Mode → Bool
writes Input = false
writes Output = true
writes Both = true

-- ---- a test of two accesses

-- no number lies in both of some spans
abbrev pub meets : List Span → List Span → Bool
meets [] [] = true
meets (s ∷ a) (t ∷ b) = (ltb s.lo t.hi && ltb t.lo s.hi) && meets a b
meets _ _ = false

abbrev pub same_first : List ℕ → List ℕ → Bool
same_first (x ∷ xs) (y ∷ ys) = eqb x y
same_first _ _ = false

abbrev pub are_clear : Use → Use → Bool
are_clear a b =
    not (writes a.mode || writes b.mode) ||
    (not (eqb a.array b.array) || (same_first a.iterations b.iterations || not (meets a.rect b.rect)))

abbrev pub all_clear : List Use → Bool
all_clear uses = list_all (λ a. list_all (are_clear a) uses) uses

-- ---- what it is worth

overlap : (s t : Span) (x : ℕ) → s.lo ≤ x → x < s.hi → t.lo ≤ x → x < t.hi → (ltb s.lo t.hi && ltb t.lo s.hi) ≡ true
overlap s t x a b c d = rw (
  (Decides-ltb s.lo t.hi).1 (omega (arith, a, d)),
  (Decides-ltb t.lo s.hi).1
      (omega (arith, c, b)),
) refl

covered : (a b : List Span) (c : List ℕ) → Covers a c → Covers b c → meets a b ≡ true
covered [] [] [] h k = refl
covered [] [] (x ∷ c) h k = absurd h
covered [] (t ∷ b) [] h k = absurd k
covered [] (t ∷ b) (x ∷ c) h k = absurd h
covered (s ∷ a) [] [] h k = absurd h
covered (s ∷ a) [] (x ∷ c) h k = absurd k
covered (s ∷ a) (t ∷ b) [] h k = absurd h
covered (s ∷ a) (t ∷ b) (x ∷ c) h k = rw (overlap s t x h.0 h.1 k.0 k.1, covered a b c h.2 k.2) refl

same_turn : (xs ys : List ℕ) → same_first xs ys ≡ true → slice_get xs 0 ≡ slice_get ys 0
same_turn [] ys h = cc
same_turn (x ∷ xs) [] h = cc
same_turn (x ∷ xs) (y ∷ ys) h = ap (λ n. Some n) ((Decides-eqb x y).0 h)

clear_cases : (w e s m : Bool) → (not w || (not e || (s || not m))) ≡ true → w ≡ true → e ≡ true → (s ≡ false)
    → m ≡ true → ⊥
clear_cases true true false true h a b c d = cc
clear_cases true true false false h a b c d = cc
clear_cases true true true m h a b c d = cc
clear_cases true false s m h a b c d = cc
clear_cases false e s m h a b c d = cc

either : (a b : Bool) → (a ≡ true) ⊎ (b ≡ true) → (a || b) ≡ true
either true b h = refl
either false b (inl h) = cc
either false b (inr h) = h

same_or_not : (b : Bool) → (b ≡ true → ⊥) → b ≡ false
same_or_not true h = absurd (h refl)
same_or_not false h = refl

pub no_clash : (uses : List Use) → all_clear uses ≡ true → (i j : ℕ) (a b : Use) → slice_get uses i ≡ Some a
    → slice_get uses j ≡ Some b
    → (slice_get a.iterations 0 ≡ slice_get b.iterations 0 → ⊥) → a.array ≡ b.array → Share a.rect b.rect
    → (writes a.mode ≡ true) ⊎ (writes b.mode ≡ true) → ⊥
no_clash uses clear i j a b at_a at_b apart array share write =
    let test : are_clear a b ≡ true = passes (are_clear a) uses
    (passes (λ a. list_all (are_clear a) uses) uses clear i a at_a) j b at_b in
    clear_cases (writes a.mode || writes b.mode) (eqb a.array b.array) (same_first a.iterations b.iterations)
    (meets a.rect b.rect) test
    (either (writes a.mode) (writes b.mode) write) ((Decides-eqb a.array b.array).1 array)
    (same_or_not (same_first a.iterations b.iterations) (λ h. apart (same_turn a.iterations b.iterations h)))
    (covered a.rect b.rect share.coordinate share.in_one share.in_other)

pub top_clear : all_clear (all_uses_from 32 1 16 0) ≡ true
top_clear = refl

pub mid_clear : all_clear (all_uses_from 8 2 16 0) ≡ true
mid_clear = refl
