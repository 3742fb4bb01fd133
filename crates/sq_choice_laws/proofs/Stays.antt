-- An argument that stays in its loop passes the test.
use Rattle.std.proofs.Common.{◌≡◌, ◌==◌, ℕ, zero, suc, ◌+◌, Bool, true, false, not, ◌&&◌, ◌||◌, List, [], ◌∷◌, map}
use Rattle.std.proofs.Common.{slice_get, Some, refl, sym, ◌∙◌, ap, subst, arith}
use Rattle.std.proofs.lemmas.Bool.Decides.{nat_tests}
use Rattle.std.specs.List.{list_all}
use Rattle.sq_text.specs.declared.place.Span.{Span}
use Rattle.sq_rect.specs.Blocks.{Share}
use Rattle.sq_ast.specs.Modes.{is_written}
use Rattle.sq_blocks.specs.declared.argument.Argument.{Argument}
use Rattle.sq_forms.specs.Calls.{shares, meets, is_apart}
use Rattle.sq_form_laws.proofs.Exact.{shares_element}
use Rattle.sq_spec.specs.declared.statement.CallInstance.{CallInstance}
use Rattle.sq_placed.specs.Tables.{row_rect, arg_rect}
use Rattle.sq_draft_laws.specs.TermLaws.Orders.{EachOf}
use Rattle.sq_draft_laws.specs.ProgramLaws.Held.{StandsApart, Stays}
use Rattle.sq_pipe.specs.Hoist.Loops.{same_spans, is_block, stays_in, stays_by, stays}
use Rattle.sq_pass_laws.proofs.Nests.{itself}
use Rattle.sq_pass_laws.proofs.Staying.{word, words, word_at, equal_is}
use Rattle.sq_choice_laws.proofs.Clears.{both_true, IsProper}

-- a row with these words, none of whose blocks is empty
pub record IsRow (those : List Argument) (q : CallInstance) : Type 0 where
  pub alike : words q ≡ those
  pub proper : IsProper q

pub record Item (xs : List Argument) (i : ℕ) : Type 0 where
  pub it : Argument
  pub there : slice_get xs i ≡ Some it

pub word_there : (xs ys : List Argument) (i : ℕ) → map word xs ≡ ys → Item ys i → Item xs i
word_there [] [] i e h = let f = h.there in absurd (cc f)
word_there [] (y ∷ ys) i e h = absurd (cc e)
word_there (x ∷ xs) [] i e h = absurd (cc e)
word_there (x ∷ xs) (y ∷ ys) zero e h = record { it = x; there = refl }
word_there (x ∷ xs) (y ∷ ys) (suc i) e h =
    let g = word_there xs ys i (cc e) (record { it = h.it; there = h.there }) in record { it = g.it; there = g.there }

pub in_words : (xs ys : List Argument) (i : ℕ) → map word xs ≡ ys → Item xs i → Item ys i
in_words [] ys i e h = let f = h.there in absurd (cc f)
in_words (x ∷ xs) [] i e h = absurd (cc e)
in_words (x ∷ xs) (y ∷ ys) zero e h = record { it = y; there = refl }
in_words (x ∷ xs) (y ∷ ys) (suc i) e h =
    let g = in_words xs ys i (cc e) (record { it = h.it; there = h.there }) in record { it = g.it; there = g.there }

-- ---- blocks

same_self : (a : List Span) → same_spans a a ≡ true
same_self [] = refl
same_self (s ∷ a) =
    both_true (s.lo == s.lo) (s.hi == s.hi && same_spans a a) (itself s.lo)
    (both_true (s.hi == s.hi) (same_spans a a) (itself s.hi) (same_self a))

pub spans_same : (a c : List Span) → a ≡ c → same_spans a c ≡ true
spans_same a c e = subst (λ c. same_spans a c ≡ true) e (same_self a)

apart_all : (x : Argument) (k j : ℕ) (ys : List Argument)
    → ((m : ℕ) (y : Argument) → slice_get ys m ≡ Some y → (m + j ≡ k → ⊥) → meets x y ≡ false)
    → is_apart x k j ys ≡ true
apart_all x k j [] h = refl
apart_all x k j (y ∷ ys) h =
    both_true (j == k || not (meets x y)) (is_apart x k (j + 1) ys) (by (j == k) refl)
    (apart_all x k (j + 1) ys (λ m z at far. h (suc m) z at (λ e. far (omega (arith, e)))))
  where
    unequal : (m n : ℕ) → (m == n) ≡ false → m ≡ n → ⊥
    unequal m n e s = absurd (grind (arith, nat_tests))

    by : (t : Bool) → (j == k) ≡ t → (t || not (meets x y)) ≡ true
    by true e = refl
    by false e = ap not (h 0 y refl (λ s. unequal j k e (omega (arith, s))))

-- ---- one row

module _ (those : List Argument) (i : ℕ) (first : CallInstance) (first_is : IsRow those first) (x : Argument)
    (at : slice_get first.args i ≡ Some x) (block : List Span) (rect : row_rect (Some first) i ≡ block) where
  met : (a c : Bool) → (a ≡ true → c ≡ false) → (a && c) ≡ false
  met true c h = h refl
  met false c h = refl

  neither : (a c : Bool) → a ≡ false → c ≡ false → (a || c) ≡ false
  neither a c p q = (λ i. p i || q i)

  row_stays : (q : CallInstance) → IsRow those q → row_rect (Some q) i ≡ block → StandsApart q.args i
      → stays_in i x q ≡ true
  row_stays q is same apart =
      both_true (is_block x (slice_get q.args i)) (is_apart x i 0 q.args)
      (subst (λ o. is_block x o ≡ true) (sym its.there)
      (both_true (x.array == y.array) (same_spans x.rect y.rect) (equal_is x.array y.array array)
      (spans_same x.rect y.rect rects)))
      (apart_all x i 0 q.args (λ m z to far. met (shares x z) (is_written x.mode || is_written z.mode) (λ e.
      let s = shares_element x z (first_is.proper.proper i x at) (is.proper.proper m z to) e in
      let u = apart.others m y z (λ e. far (omega (arith, e))) its.there to (record {
        array = sym array ∙ s.array;
        blocks = subst (λ b. Share b z.rect) rects s.blocks;
      }) in
      neither (is_written x.mode) (is_written z.mode) (ap is_written mode ∙ u.0) u.1)))
    where
      its : Item q.args i
      its = word_there q.args those i is.alike (in_words first.args those i first_is.alike (record { it = x; there = at }))

      y : Argument
      y = its.it

      word_is : word x ≡ word y
      word_is = word_at first.args q.args i x y (first_is.alike ∙ sym is.alike) at its.there

      array : x.array ≡ y.array
      array = ap (λ (a : Argument). a.array) word_is

      mode : x.mode ≡ y.mode
      mode = ap (λ (a : Argument). a.mode) word_is

      rects : x.rect ≡ y.rect
      rects = sym (ap arg_rect at) ∙ rect ∙ sym same ∙ ap arg_rect its.there

  rows_stay : (rows : List CallInstance) → EachOf (IsRow those) rows
      → EachOf (λ (q : CallInstance). row_rect (Some q) i ≡ block) rows
      → EachOf (λ (q : CallInstance). StandsApart q.args i) rows → list_all (stays_in i x) rows ≡ true
  rows_stay [] are same apart = refl
  rows_stay (q ∷ rows) are same apart =
      both_true (stays_in i x q) (list_all (stays_in i x) rows) (row_stays q are.0 same.0 apart.0)
      (rows_stay rows are.1 same.1 apart.1)

-- ---- the calls of one time

pub stays_all : (those : List Argument) (i : ℕ) → Item those i → (rows : List CallInstance) → EachOf (IsRow those) rows
    → Stays i rows → stays i rows ≡ true
stays_all those i item [] are h = refl
stays_all those i item (r ∷ rows) are h =
    let its = word_there r.args those i are.0.alike item in
    subst (λ o. stays_by i o (r ∷ rows) ≡ true) (sym its.there)
    (rows_stay those i r are.0 its.it its.there h.block h.same.0 (r ∷ rows) are h.same h.apart)
