-- What a call that passes gives.
use Rattle.std.proofs.Common.{◌≡◌, ℕ, zero, suc, ◌+◌, ◌<◌, Bool, true, false, cond, List, [], ◌∷◌, ◌++◌, length, Option, Some, None, refl, sym, ◌∙◌, ap, subst, arith, append_assoc, length-append}
use Rattle.std.specs.Prelude.{slice_get, ◌==◌, not, ◌&&◌, ◌||◌}
use Rattle.std.specs.List.{list_any}
use Rattle.std.proofs.lemmas.Bool.Decides.{nat_tests}
use Rattle.sq_text.specs.declared.place.Span.{Span}
use Rattle.sq_blocks.specs.Rect.Blocks.{Covers, overlaps}
use Rattle.sq_blocks.proofs.Rect.Coordinates.{of_share}
use Rattle.sq_blocks.specs.declared.argument.Argument.{Argument}
use Rattle.sq_forms.specs.Calls.{shares, meets, clashes, alias_from, is_apart, flags_from}
use Rattle.sq_ast.specs.Modes.{is_written}
use Rattle.sq_form_laws.specs.Laws.{SharesElement, PassedIsUnaliased, InPlaceIsApart}

-- ---- arguments that share an element

covers_length : (a : List Span) (c : List ℕ) → Covers a c → length a ≡ length c
covers_length [] [] h = refl
covers_length [] (x ∷ c) h = absurd h
covers_length (s ∷ a) [] h = absurd h
covers_length (s ∷ a) (x ∷ c) h = ap suc (covers_length a c h.2)

equal_is : (m n : ℕ) → m ≡ n → (m == n) ≡ true
equal_is m n h = grind (arith, nat_tests)

all_three : (a b c : Bool) → a ≡ true → b ≡ true → c ≡ true → (a && b && c) ≡ true
all_three a b c p q r = (λ i. p i && q i && r i)

share_by_test : (x y : Argument) → SharesElement x y → shares x y ≡ true
share_by_test x y h =
    let same : length x.rect ≡ length y.rect = covers_length x.rect h.blocks.coordinate h.blocks.in_one ∙ sym (covers_length y.rect h.blocks.coordinate h.blocks.in_other) in
    all_three (x.array == y.array) (length x.rect == length y.rect) (overlaps x.rect y.rect) (equal_is x.array y.array h.array) (equal_is (length x.rect) (length y.rect) same)
    (of_share x.rect y.rect h.blocks)

true_false : (b : Bool) → b ≡ true → b ≡ false → ⊥
true_false b p q = absurd (cc (sym p ∙ q))

-- where a choice of Some or the rest is None
not_chosen : {A : Type 0} (b : Bool) (a : A) (o : Option A) → cond b (Some a) o ≡ None → (b ≡ false) × (o ≡ None)
not_chosen true a o h = absurd (cc h)
not_chosen false a o h = (refl, h)

and_false : (a b : Bool) → a && b ≡ false → a ≡ true → b ≡ false
and_false true b h e = h
and_false false b h e = absurd (cc e)

or_false : (a b : Bool) → a || b ≡ false → (a ≡ false) × (b ≡ false)
or_false true b h = absurd (cc h)
or_false false b h = (refl, h)

pub and_both : (a b : Bool) → a && b ≡ true → (a ≡ true) × (b ≡ true)
and_both true b h = (refl, h)
and_both false b h = absurd (cc h)

-- none among these shares an element with x
none_before : (x : Argument) (before : List Argument) (i : ℕ) (y : Argument) → list_any (clashes x) before ≡ false → slice_get before i ≡ Some y → is_written y.mode ≡ true → shares x y ≡ false
none_before x [] i y h e w = absurd (cc e)
none_before x (z ∷ before) zero y h e w =
    let f : z ≡ y = cc e in
    let g : clashes x z ≡ false = (or_false (clashes x z) (list_any (clashes x) before) h).0 in
    and_false (is_written y.mode) (shares x y) (ap (clashes x) (sym f) ∙ g) w
none_before x (z ∷ before) (suc i) y h e w = none_before x before i y (or_false (clashes x z) (list_any (clashes x) before) h).1 e w

pub get_front : {A : Type 0} (before xs : List A) (k : ℕ) → k < length before → slice_get (before ++ xs) k ≡ slice_get before k
get_front [] xs k h = absurd (omega (arith, h))
get_front (z ∷ before) xs zero h = refl
get_front (z ∷ before) xs (suc k) h = get_front before xs k (omega (arith, h))

alias_none : (i : ℕ) (before xs : List Argument) → alias_from i before xs ≡ None → (j k : ℕ) (x y : Argument) → k < length before + j
    → slice_get (before ++ xs) k ≡ Some x → slice_get xs j ≡ Some y → is_written x.mode ≡ true → is_written y.mode ≡ true → shares y x ≡ false
alias_none i before [] h j k x y lt ex ey wx wy = absurd (cc ey)
alias_none i before (z ∷ xs) h zero k x y lt ex ey wx wy =
    let e : z ≡ y = cc ey in
    let p = not_chosen (is_written z.mode && list_any (clashes z) before) i (alias_from (i + 1) (before ++ z ∷ []) xs) h in
    let w : is_written z.mode ≡ true = ap (λ (a : Argument). is_written a.mode) e ∙ wy in
    let q : list_any (clashes z) before ≡ false = and_false (is_written z.mode) (list_any (clashes z) before) p.0 w in
    let f : slice_get before k ≡ Some x = sym (get_front before (z ∷ xs) k (omega (arith, lt))) ∙ ex in
    ap (λ (a : Argument). shares a x) (sym e) ∙ none_before z before k x q f wx
alias_none i before (z ∷ xs) h (suc j) k x y lt ex ey wx wy =
    let p = not_chosen (is_written z.mode && list_any (clashes z) before) i (alias_from (i + 1) (before ++ z ∷ []) xs) h in
    alias_none (i + 1) (before ++ z ∷ []) xs p.1 j k x y (omega (arith, lt, length-append before (z ∷ [])))
    (ap (λ l. slice_get l k) (append_assoc before (z ∷ []) xs) ∙ ex) ey wx wy

pub passed_is_unaliased : PassedIsUnaliased
passed_is_unaliased xs h i j x y lt ex ey wx wy s = true_false (shares y x) (share_by_test y x s) (alias_none 0 [] xs h j i x y (omega (arith, lt)) ex ey wx wy)

-- ---- in place

not_true : (b : Bool) → not b ≡ true → b ≡ false
not_true true h = absurd (cc h)
not_true false h = refl

or_second : (a b : Bool) → a || b ≡ true → a ≡ false → b ≡ true
or_second true b h e = absurd (cc e)
or_second false b h e = h

unequal : (m n : ℕ) → (m ≡ n → ⊥) → (m == n) ≡ false
unequal m n h = grind (arith, nat_tests)

apart_at : (x : Argument) (k j : ℕ) (ys : List Argument) → is_apart x k j ys ≡ true → (i : ℕ) (y : Argument) → slice_get ys i ≡ Some y → (j + i ≡ k → ⊥) → meets x y ≡ false
apart_at x k j [] h i y e far = absurd (cc e)
apart_at x k j (z ∷ ys) h zero y e far =
    let f : z ≡ y = cc e in
    let p = and_both (j == k || not (meets x z)) (is_apart x k (j + 1) ys) h in
    let q : not (meets x z) ≡ true = or_second (j == k) (not (meets x z)) p.0 (unequal j k (λ s. far (omega (arith, s)))) in
    ap (meets x) (sym f) ∙ not_true (meets x z) q
apart_at x k j (z ∷ ys) h (suc i) y e far =
    let p = and_both (j == k || not (meets x z)) (is_apart x k (j + 1) ys) h in
    apart_at x k (j + 1) ys p.1 i y e (λ s. far (omega (arith, s)))

pub flag_at : (same : Bool) (all : List Argument) (start : ℕ) (xs : List Argument) (k n : ℕ) (x : Argument) → n ≡ start + k → slice_get (flags_from same all start xs) k ≡ Some true → slice_get xs k ≡ Some x
    → (same && (not x.is_reduced && is_apart x n 0 all)) ≡ true
flag_at same all start [] k n x m h e = absurd (cc e)
flag_at same all start (z ∷ xs) zero n x m h e =
    let f : z ≡ x = cc e in
    let g : (same && (not z.is_reduced && is_apart z start 0 all)) ≡ true = cc h in
    let l : start ≡ n = omega (arith, m) in
    subst (λ i. (same && (not x.is_reduced && is_apart x i 0 all)) ≡ true) l
    (subst (λ (a : Argument). (same && (not a.is_reduced && is_apart a start 0 all)) ≡ true) f g)
flag_at same all start (z ∷ xs) (suc k) n x m h e = flag_at same all (start + 1) xs k n x (omega (arith, m)) h e

unwritten : (x y : Argument) → SharesElement x y → meets x y ≡ false → (is_written x.mode ≡ false) × (is_written y.mode ≡ false)
unwritten x y s h = or_false (is_written x.mode) (is_written y.mode) (and_false (shares x y) (is_written x.mode || is_written y.mode) h (share_by_test x y s))

pub in_place_is_apart : InPlaceIsApart
in_place_is_apart same xs k h = record {
  others = λ j x y far ex ey sh.
      let p = and_both same (not x.is_reduced && is_apart x k 0 xs) (flag_at same xs 0 xs k k x (omega arith) h ex) in
      let q = and_both (not x.is_reduced) (is_apart x k 0 xs) p.1 in
      unwritten x y sh (apart_at x k 0 xs q.1 j y ey (λ s. far (omega (arith, s))));
  whole = λ x ex.
      let p = and_both same (not x.is_reduced && is_apart x k 0 xs) (flag_at same xs 0 xs k k x (omega arith) h ex) in
      let q = and_both (not x.is_reduced) (is_apart x k 0 xs) p.1 in
      not_true x.is_reduced q.0;
}
