-- An argument that passes the test stays in its loop: its block is the same, apart from those of the other arguments.
use Rattle.std.proofs.Common.{◌≡◌, ℕ, zero, suc, ◌+◌, ◌==◌, Bool, true, false, not, ◌&&◌, ◌||◌, List, [], ◌∷◌, map}
use Rattle.std.proofs.Common.{length, slice_get, Option, Some, None, refl, sym, ◌∙◌, ap, ap₂, subst, arith}
use Rattle.std.proofs.lemmas.Bool.Decides.{nat_tests}
use Rattle.sq_text.specs.declared.place.Span.{Span}
use Rattle.sq_rect.specs.Blocks.{Covers, Share, overlaps}
use Rattle.sq_rect.proofs.Coordinates.{of_share}
use Rattle.sq_ast.specs.Modes.{is_written}
use Rattle.sq_blocks.specs.declared.argument.Argument.{Argument}
use Rattle.sq_forms.specs.Calls.{shares, meets, is_apart}
use Rattle.sq_form_laws.specs.Laws.{SharesElement}
use Rattle.sq_spec.specs.declared.statement.CallInstance.{CallInstance}
use Rattle.sq_placed.specs.Tables.{with_rect, row_rect}
use Rattle.sq_draft_laws.specs.TermLaws.Orders.{EachOf}
use Rattle.sq_draft_laws.specs.ProgramLaws.Held.{StandsApart, Stays}
use Rattle.sq_pipe.specs.Hoist.Loops.{same_spans, is_block, stays_in, stays_by, stays}
use Rattle.sq_pass_laws.proofs.Nests.{both, same_number}
use Rattle.sq_pass_laws.proofs.HoistLists.{all_each, each_two}

-- ---- rows whose arguments differ in their blocks alone

-- an argument, its block left aside
abbrev pub word : Argument → Argument
word a = with_rect a []

abbrev pub words : CallInstance → List Argument
words r = map word r.args

-- all of these rows have the same words
pub record AreAlike (rows : List CallInstance) : Type 0 where
  pub those : List Argument
  pub each : EachOf (λ (r : CallInstance). words r ≡ those) rows

pub word_at : (xs ys : List Argument) (i : ℕ) (x y : Argument) → map word xs ≡ map word ys → slice_get xs i ≡ Some x
    → slice_get ys i ≡ Some y → word x ≡ word y
word_at [] ys i x y e p q = absurd (cc p)
word_at (a ∷ xs) [] i x y e p q = absurd (cc e)
word_at (a ∷ xs) (c ∷ ys) zero x y e p q =
    let f : a ≡ x = cc p in
    let g : c ≡ y = cc q in
    let h : word a ≡ word c = cc e in
    ap word (sym f) ∙ h ∙ ap word g
word_at (a ∷ xs) (c ∷ ys) (suc i) x y e p q = word_at xs ys i x y (cc e) p q

-- ---- blocks that share an element

covered_length : (a : List Span) (c : List ℕ) → Covers a c → length a ≡ length c
covered_length [] [] h = refl
covered_length [] (x ∷ c) h = absurd h
covered_length (s ∷ a) [] h = absurd h
covered_length (s ∷ a) (x ∷ c) h = ap suc (covered_length a c h.2)

pub equal_is : (m n : ℕ) → m ≡ n → (m == n) ≡ true
equal_is m n h = grind (arith, nat_tests)

all_three : (a b c : Bool) → a ≡ true → b ≡ true → c ≡ true → (a && b && c) ≡ true
all_three a b c p q r = (λ i. p i && q i && r i)

pub shares_is : (x y : Argument) → SharesElement x y → shares x y ≡ true
shares_is x y h =
    let same : length x.rect ≡ length y.rect = covered_length x.rect h.blocks.coordinate h.blocks.in_one
    ∙ sym (covered_length y.rect h.blocks.coordinate h.blocks.in_other) in
    all_three (x.array == y.array) (length x.rect == length y.rect) (overlaps x.rect y.rect)
    (equal_is x.array y.array h.array) (equal_is (length x.rect) (length y.rect) same) (of_share x.rect y.rect h.blocks)

not_first : (a b : Bool) → (a || not b) ≡ true → (a ≡ true → ⊥) → b ≡ false
not_first true b e differ = absurd (differ refl)
not_first false true e differ = absurd (cc e)
not_first false false e differ = refl

apart_at : (x : Argument) (k j m : ℕ) (ys : List Argument) (y : Argument) → is_apart x k j ys ≡ true
    → slice_get ys m ≡ Some y → (m + j ≡ k → ⊥) → meets x y ≡ false
apart_at x k j m [] y e at differ = absurd (cc at)
apart_at x k j zero (z ∷ ys) y e at differ =
    let here = (both (j == k || not (meets x z)) (is_apart x k (j + 1) ys) e).0 in
    let is : z ≡ y = cc at in
    subst (λ w. meets x w ≡ false) is
    (not_first (j == k) (meets x z) here (λ same. differ (let s = same_number j k same in omega (arith, s))))
apart_at x k j (suc m) (z ∷ ys) y e at differ =
    apart_at x k (j + 1) m ys y (both (j == k || not (meets x z)) (is_apart x k (j + 1) ys) e).1 at
    (λ same. differ (omega (arith, same)))

unwritten : (s a b : Bool) → s ≡ true → (s && (a || b)) ≡ false → (a ≡ false) × (b ≡ false)
unwritten false a b e f = absurd (cc e)
unwritten true true b e f = absurd (cc f)
unwritten true false true e f = absurd (cc f)
unwritten true false false e f = (refl, refl)

-- ---- the same block

spans_are : (a b : List Span) → same_spans a b ≡ true → a ≡ b
spans_are [] [] e = refl
spans_are [] (t ∷ b) e = absurd (cc e)
spans_are (s ∷ a) [] e = absurd (cc e)
spans_are (s ∷ a) (t ∷ b) e =
    let lows = both (s.lo == t.lo) (s.hi == t.hi && same_spans a b) e in
    let highs = both (s.hi == t.hi) (same_spans a b) lows.1 in
    let span : s ≡ t = ap₂ (λ (m n : ℕ). record { lo = m; hi = n }) (same_number s.lo t.lo lows.0)
    (same_number s.hi t.hi highs.0) in
    ap₂ (λ (x : Span) (xs : List Span). x ∷ xs) span (spans_are a b highs.1)

-- there is an argument with this block
record IsThere (x : Argument) (o : Option Argument) : Type 0 where
  it : Argument
  there : o ≡ Some it
  array : x.array ≡ it.array
  rect : x.rect ≡ it.rect

there_is : (x : Argument) (o : Option Argument) → is_block x o ≡ true → IsThere x o
there_is x None e = absurd (cc e)
there_is x (Some y) e =
    let h = both (x.array == y.array) (same_spans x.rect y.rect) e in
    record { it = y; there = refl; array = same_number x.array y.array h.0; rect = spans_are x.rect y.rect h.1 }

-- ---- all calls of one time

module _ (i : ℕ) (x : Argument) (first : CallInstance) (at : slice_get first.args i ≡ Some x) where
  is_there : (r : CallInstance) → stays_in i x r ≡ true → IsThere x (slice_get r.args i)
  is_there r e = there_is x (slice_get r.args i) (both (is_block x (slice_get r.args i)) (is_apart x i 0 r.args) e).0

  abbrev row_block : Option Argument → List Span
  row_block None = []
  row_block (Some a) = a.rect

  same_at : (r : CallInstance) → stays_in i x r ≡ true → row_rect (Some r) i ≡ x.rect
  same_at r e = let t = is_there r e in ap row_block t.there ∙ sym t.rect

  apart_in : (r : CallInstance) → stays_in i x r ≡ true → words r ≡ words first → StandsApart r.args i
  apart_in r e alike = record {
    others = λ j y z far ey ez share.
        let t = is_there r e in
        let is : t.it ≡ y = cc (sym t.there ∙ ey) in
        let array : x.array ≡ y.array = t.array ∙ ap (λ (a : Argument). a.array) is in
        let rect : x.rect ≡ y.rect = t.rect ∙ ap (λ (a : Argument). a.rect) is in
        let same : SharesElement x z = record {
          array = array ∙ share.array;
          blocks = subst (λ b. Share b z.rect) (sym rect) share.blocks;
        } in
        let met = apart_at x i 0 j r.args z (both (is_block x (slice_get r.args i)) (is_apart x i 0 r.args) e).1 ez
        (λ s. far (omega (arith, s))) in
        let w = unwritten (shares x z) (is_written x.mode) (is_written z.mode) (shares_is x z same) met in
        let mode : x.mode ≡ y.mode = sym (ap (λ (a : Argument). a.mode)
        (word_at r.args first.args i y x alike ey at)) in
        (subst (λ m. is_written m ≡ false) mode w.0, w.1);
  }

stay_by : (i : ℕ) (o : Option Argument) (first : CallInstance) → slice_get first.args i ≡ o
    → (rows : List CallInstance) → stays_by i o rows ≡ true
    → EachOf (λ (r : CallInstance). words r ≡ words first) rows → Stays i rows
stay_by i None first at rows e alike = absurd (cc e)
stay_by i (Some x) first at rows e alike =
    let tests = all_each (stays_in i x) rows e in record {
      block = x.rect;
      same = each_two (λ r. stays_in i x r ≡ true) (λ (r : CallInstance). words r ≡ words first)
          (λ r. row_rect (Some r) i ≡ x.rect) rows (λ r t w. same_at i x first at r t) tests alike;
      apart = each_two (λ r. stays_in i x r ≡ true) (λ (r : CallInstance). words r ≡ words first)
          (λ r. StandsApart r.args i) rows (λ r t w. apart_in i x first at r t w) tests alike;
    }

pub stays_is : (i : ℕ) (rows : List CallInstance) → stays i rows ≡ true → AreAlike rows → Stays i rows
stays_is i [] e alike = record { block = []; same = tt; apart = tt }
stays_is i (r ∷ rows) e alike =
    stay_by i (slice_get r.args i) r refl (r ∷ rows) e
    (subst (λ w. EachOf (λ (q : CallInstance). words q ≡ w) (r ∷ rows)) (sym alike.each.0) alike.each)
