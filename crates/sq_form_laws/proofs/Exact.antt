-- Where nothing is at fault among arguments that share no element, and which are in place.
use Rattle.std.proofs.Common.{◌≡◌, ℕ, zero, suc, ◌+◌, ◌<◌, Bool, true, false, List, [], ◌∷◌, ◌++◌, length, Option, Some, None, refl, sym, ◌∙◌, ap, arith, append_assoc, length-append}
use Rattle.std.specs.Prelude.{slice_get, ◌==◌, not, ◌&&◌, ◌||◌, if◌then◌else◌}
use Rattle.std.specs.List.{list_any}
use Rattle.std.proofs.lemmas.Bool.Decides.{nat_tests}
use Rattle.sq_blocks.specs.Rect.Blocks.{overlaps}
use Rattle.sq_blocks.specs.Rect.Spans.{AreProper}
use Rattle.sq_blocks.proofs.Rect.Coordinates.{shares as share_by}
use Rattle.sq_blocks.specs.declared.argument.Argument.{Argument}
use Rattle.sq_forms.specs.Calls.{shares, meets, clashes, alias_from, is_apart, flags, flags_from}
use Rattle.sq_ast.specs.Modes.{is_written}
use Rattle.sq_form_laws.specs.Laws.{SharesElement, Apart, AreProperBlocks, AliasIsExact, FlagsAreExact}
use Rattle.sq_form_laws.proofs.CallsHold.{get_front, and_both, flag_at, passed_is_unaliased, in_place_is_apart}

three : (a b c : Bool) → (a && b && c) ≡ true → (a ≡ true) × (b ≡ true) × (c ≡ true)
three true true true h = (refl, refl, refl)
three true true false h = absurd (cc h)
three true false c h = absurd (cc h)
three false b c h = absurd (cc h)

is_equal : (m n : ℕ) → (m == n) ≡ true → m ≡ n
is_equal m n h = grind (arith, nat_tests)

is_unequal : (m n : ℕ) → (m == n) ≡ false → m ≡ n → ⊥
is_unequal m n h e = absurd (grind (arith, nat_tests))

pub shares_element : (x y : Argument) → AreProper x.rect → AreProper y.rect → shares x y ≡ true → SharesElement x y
shares_element x y p q h =
    let parts = three (x.array == y.array) (length x.rect == length y.rect) (overlaps x.rect y.rect) h in record {
      array = is_equal x.array y.array parts.0;
      blocks = share_by x.rect y.rect p q (is_equal (length x.rect) (length y.rect) parts.1) parts.2;
    }

not_sharing : (x y : Argument) → AreProper x.rect → AreProper y.rect → (SharesElement x y → ⊥) → (b : Bool) → shares x y ≡ b → shares x y ≡ false
not_sharing x y p q none true e = absurd (none (shares_element x y p q e))
not_sharing x y p q none false e = e

-- ---- aliases

no_clash : (z : Argument) (before : List Argument) → ((k : ℕ) (x : Argument) → slice_get before k ≡ Some x → is_written x.mode ≡ true → shares z x ≡ false)
    → list_any (clashes z) before ≡ false
no_clash z [] f = refl
no_clash z (x ∷ before) f =
    let rest = no_clash z before (λ k y g w. f (suc k) y g w) in
    let one = both_false (is_written x.mode) (shares z x) (λ w. f 0 x refl w) in
    (λ i. one i || rest i)
  where
    both_false : (a b : Bool) → (a ≡ true → b ≡ false) → (a && b) ≡ false
    both_false true b g = g refl
    both_false false b g = refl

not_at : (a b : Bool) (i : ℕ) (rest : Option ℕ) → (a ≡ true → b ≡ false) → rest ≡ None → (if a && b then Some i else rest) ≡ None
not_at true true i rest f h = absurd (cc (f refl))
not_at true false i rest f h = h
not_at false b i rest f h = h

-- no written argument shares an element with a written one before it
abbrev Free : List Argument → List Argument → Type 0
Free before xs = (j k : ℕ) (x y : Argument) → k < length before + j → slice_get (before ++ xs) k ≡ Some x → slice_get xs j ≡ Some y → is_written x.mode ≡ true → is_written y.mode ≡ true
    → shares y x ≡ false

unaliased : (i : ℕ) (before xs : List Argument) → Free before xs → alias_from i before xs ≡ None
unaliased i before [] f = refl
unaliased i before (z ∷ xs) f =
    not_at (is_written z.mode) (list_any (clashes z) before) i (alias_from (i + 1) (before ++ z ∷ []) xs)
    (λ w. no_clash z before (λ k x g u. f 0 k x z (inside before k x g) (get_front before (z ∷ xs) k (front before k x g) ∙ g) refl u w))
    (unaliased (i + 1) (before ++ z ∷ []) xs
    (λ j k x y less ex ey wx wy. f (suc j) k x y (omega (arith, less, length-append before (z ∷ []))) (sym (ap (λ l. slice_get l k) (append_assoc before (z ∷ []) xs)) ∙ ex) ey wx wy))
  where
    front : (l : List Argument) (k : ℕ) (x : Argument) → slice_get l k ≡ Some x → k < length l
    front [] k x h = absurd (cc h)
    front (y ∷ l) zero x h = omega arith
    front (y ∷ l) (suc k) x h = let e = front l k x h in omega (arith, e)

    inside : (l : List Argument) (k : ℕ) (x : Argument) → slice_get l k ≡ Some x → k < length l + 0
    inside l k x h = let e = front l k x h in omega (arith, e)

pub alias_is_exact : AliasIsExact
alias_is_exact xs proper = (
  passed_is_unaliased xs,
  λ none. unaliased 0 [] xs (λ j k x y less ex ey wx wy.
      not_sharing y x (proper j y ey) (proper k x ex) (λ sh. none k j x y (omega (arith, less)) ex ey wx wy sh) (shares y x) refl),
)

-- ---- in place

at_index : {A : Type 0} (xs : List A) (k : ℕ) → k < length xs → (x : A) × (slice_get xs k ≡ Some x)
at_index [] k h = absurd (omega (arith, h))
at_index (x ∷ xs) zero h = (x, refl)
at_index (x ∷ xs) (suc k) h = at_index xs k (omega (arith, h))

flag_is : (same : Bool) (all : List Argument) (start : ℕ) (xs : List Argument) (k n : ℕ) (x : Argument) → n ≡ start + k → slice_get xs k ≡ Some x
    → slice_get (flags_from same all start xs) k ≡ Some (same && (not x.is_reduced && is_apart x n 0 all))
flag_is same all start [] k n x m e = absurd (cc e)
flag_is same all start (z ∷ xs) zero n x m e =
    let f : z ≡ x = cc e in
    let l : start ≡ n = omega (arith, m) in
    (λ i. Some (same && (not (f i).is_reduced && is_apart (f i) (l i) 0 all)))
flag_is same all start (z ∷ xs) (suc k) n x m e = flag_is same all (start + 1) xs k n x (omega (arith, m)) e

apart_by : (b c d : Bool) → (b ≡ false → c ≡ false) → d ≡ true → ((b || not c) && d) ≡ true
apart_by true c d f h = h
apart_by false true d f h = absurd (cc (f refl))
apart_by false false d f h = h

is_apart_by : (x : Argument) (k j : ℕ) (ys : List Argument) → ((i : ℕ) (y : Argument) → slice_get ys i ≡ Some y → (j + i ≡ k → ⊥) → meets x y ≡ false)
    → is_apart x k j ys ≡ true
is_apart_by x k j [] f = refl
is_apart_by x k j (y ∷ ys) f =
    apart_by (j == k) (meets x y) (is_apart x k (j + 1) ys) (λ e. f 0 y refl (λ s. is_unequal j k e (omega (arith, s))))
    (is_apart_by x k (j + 1) ys (λ i z g far. f (suc i) z g (λ s. far (omega (arith, s)))))

meets_not : (x y : Argument) → AreProper x.rect → AreProper y.rect → (SharesElement x y → (is_written x.mode ≡ false) × (is_written y.mode ≡ false))
    → (b : Bool) → shares x y ≡ b → meets x y ≡ false
meets_not x y p q f true e = let w = f (shares_element x y p q e) in (λ i. e i && (w.0 i || w.1 i))
meets_not x y p q f false e = (λ i. e i && (is_written x.mode || is_written y.mode))

placed : (same : Bool) (xs : List Argument) (k : ℕ) → AreProperBlocks xs → k < length xs → (same ≡ true) × Apart xs k → slice_get (flags same xs) k ≡ Some true
placed same xs k proper less h =
    let at = at_index xs k less in
    let x = at.0 in
    let apart = is_apart_by x k 0 xs (λ i y g far. meets_not x y (proper k x at.1) (proper i y g) (λ sh. h.1.others i x y (λ s. far (omega (arith, s))) at.1 g sh) (shares x y) refl) in
    let whole = h.1.whole x at.1 in
    flag_is same xs 0 xs k k x (omega arith) at.1 ∙ (λ i. Some (h.0 i && (not (whole i) && apart i)))

same_level : (same : Bool) (xs : List Argument) (k : ℕ) → k < length xs → slice_get (flags same xs) k ≡ Some true → same ≡ true
same_level same xs k less h =
    let at = at_index xs k less in
    let x = at.0 in
    (and_both same (not x.is_reduced && is_apart x k 0 xs) (flag_at same xs 0 xs k k x (omega arith) h at.1)).0

pub flags_are_exact : FlagsAreExact
flags_are_exact same xs k proper less = (λ h. (same_level same xs k less h, in_place_is_apart same xs k h), placed same xs k proper less)
