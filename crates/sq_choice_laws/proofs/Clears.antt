-- The test of blocks says what it should: what an iteration writes is clear of the next two.
use Rattle.std.proofs.Common.{◌≡◌, ◌⊎◌, inl, inr, ℕ, zero, suc, ◌+◌, ◌<◌, ◌≤◌, Bool, true, false, not, ◌&&◌, ◌||◌}
use Rattle.std.proofs.Common.{List, [], ◌∷◌, take, drop, get_or, slice_get, Some, refl, sym, ap, subst, ◌∙◌}
use Rattle.std.proofs.Common.{arith, nat_lt}
use Rattle.std.proofs.lemmas.Bool.Decides.{nat_tests}
use Rattle.std.specs.List.{list_all}
use Rattle.sq_rect.specs.Spans.{AreProper}
use Rattle.sq_ast.specs.Modes.{is_written}
use Rattle.sq_blocks.specs.declared.argument.Argument.{Argument}
use Rattle.sq_forms.specs.Calls.{shares}
use Rattle.sq_form_laws.specs.Laws.{SharesElement}
use Rattle.sq_form_laws.proofs.Exact.{shares_element}
use Rattle.sq_spec.specs.declared.statement.LoopKind.{LoopKind}
use Rattle.sq_spec.specs.declared.statement.CallInstance.{CallInstance}
use Rattle.sq_spec.specs.Statements.{starts_from}
use Rattle.sq_placed.specs.Pipes.{CallLoop}
use Rattle.sq_draft_laws.specs.TermLaws.Orders.{EachOf}
use Rattle.sq_draft_laws.proofs.ProgramLaws.Loops.{each_at}
use Rattle.sq_pipe.specs.Hoist.Loops.{cut}
use Rattle.sq_pipe.specs.Candidates.{is_held, is_clear_of, are_clear_of, is_clear, is_ahead, are_ahead}
use Rattle.sq_pass_laws.proofs.Staying.{shares_is}
use Rattle.sq_pass_laws.proofs.Clear.{clear_at, one_ahead, two_ahead}
use Rattle.sq_choice_laws.specs.Leaving.{HasForm}
use Rattle.sq_choice_laws.specs.Overlapping.{IsClear, IsClearAhead}

-- ---- tests

pub both_true : (a b : Bool) → a ≡ true → b ≡ true → (a && b) ≡ true
both_true a b p q = (λ i. p i && q i)

one_kept : (held shared : Bool) → (held ≡ false → shared ≡ false) → (held || not shared) ≡ true
one_kept true shared h = refl
one_kept false false h = refl
one_kept false true h = absurd (let e = h refl in cc e)

kept : (held written rest : Bool) → (held ≡ false → written ≡ true → rest ≡ true)
    → (held || not written || rest) ≡ true
kept true written rest h = refl
kept false false rest h = refl
kept false true rest h = h refl refl

pub held_not : (ls : List ℕ) (i : ℕ) → get_or ls i 0 ≡ 0 → is_held ls i ≡ false
held_not ls i h = ap (λ n. nat_lt 0 n) h

no_less : (n : ℕ) → nat_lt 0 n ≡ false → n ≡ 0
no_less n e = grind (arith, nat_tests)

pub not_held : (ls : List ℕ) (i : ℕ) → is_held ls i ≡ false → get_or ls i 0 ≡ 0
not_held ls i h = no_less (get_or ls i 0) h

-- no span of a block of the call is empty
pub record IsProper (q : CallInstance) : Type 0 where
  pub proper : (j : ℕ) (a : Argument) → slice_get q.args j ≡ Some a → AreProper a.rect

unshared : (x y : Argument) → AreProper x.rect → AreProper y.rect → (SharesElement x y → ⊥) → shares x y ≡ false
unshared x y p q none = by (shares x y) refl
  where
    by : (t : Bool) → shares x y ≡ t → t ≡ false
    by true e = absurd (none (shares_element x y p q e))
    by false e = refl

-- ---- two calls

module _ (ls : List ℕ) where
  clear_of : (x : Argument) (m : ℕ) (ys : List Argument)
      → ((j : ℕ) (y : Argument) → slice_get ys j ≡ Some y → is_held ls (m + j) ≡ false → shares x y ≡ false)
      → is_clear_of ls x m ys ≡ true
  clear_of x m [] h = refl
  clear_of x m (y ∷ ys) h =
      let z : m ≡ m + 0 = omega arith in
      both_true (is_held ls m || not (shares x y)) (is_clear_of ls x (suc m) ys)
      (one_kept (is_held ls m) (shares x y) (λ e. h 0 y refl (subst (λ n. is_held ls n ≡ false) z e)))
      (clear_of x (suc m) ys (λ j v at e.
      let w : suc m + j ≡ m + suc j = omega arith in h (suc j) v at (subst (λ n. is_held ls n ≡ false) w e)))

  are_clear : (m : ℕ) (xs ys : List Argument)
      → ((i j : ℕ) (x y : Argument) → slice_get xs i ≡ Some x → slice_get ys j ≡ Some y → is_held ls (m + i) ≡ false
      → is_held ls j ≡ false → is_written x.mode ≡ true → shares x y ≡ false)
      → are_clear_of ls m xs ys ≡ true
  are_clear m [] ys h = refl
  are_clear m (x ∷ xs) ys h =
      let z : m ≡ m + 0 = omega arith in
      both_true (is_held ls m || not (is_written x.mode) || is_clear_of ls x 0 ys) (are_clear_of ls (suc m) xs ys)
      (kept (is_held ls m) (is_written x.mode) (is_clear_of ls x 0 ys) (λ e w. clear_of x 0 ys (λ j y at g.
      let o : 0 + j ≡ j = omega arith in
      h 0 j x y refl at (subst (λ n. is_held ls n ≡ false) z e) (subst (λ n. is_held ls n ≡ false) o g) w)))
      (are_clear (suc m) xs ys (λ i j v y at to e g w.
      let o : suc m + i ≡ m + suc i = omega arith in
      h (suc i) j v y at to (subst (λ n. is_held ls n ≡ false) o e) g w))

module _ (leaves : ℕ → List ℕ) where
  abbrev pub left : ℕ → ℕ → ℕ
  left f i = get_or (leaves f) i 0

  pub clear_is : (f : ℕ) (r q : CallInstance) → r.form ≡ f → q.form ≡ f → is_clear (leaves f) r q ≡ true
      → IsClear left r q
  clear_is f r q p s e = record {
    apart = λ i j x y at to h g w share.
        let held = held_not (leaves f) i (subst (λ k. get_or (leaves k) i 0 ≡ 0) p h) in
        let also = held_not (leaves f) j (subst (λ k. get_or (leaves k) j 0 ≡ 0) s g) in
        let none = clear_at (leaves f) r q e i j x y at to held also w in
        let some = shares_is x y share in
        absurd (cc (sym some ∙ none));
  }

  pub is_clear_all : (f : ℕ) (r q : CallInstance) → r.form ≡ f → q.form ≡ f → IsProper r → IsProper q
      → IsClear left r q → is_clear (leaves f) r q ≡ true
  is_clear_all f r q p s pr pq h = are_clear (leaves f) 0 r.args q.args (λ i j x y at to e g w.
      let o : 0 + i ≡ i = omega arith in
      unshared x y (pr.proper i x at) (pq.proper j y to)
      (h.apart i j x y at to
      (subst (λ k. get_or (leaves k) i 0 ≡ 0) (sym p)
      (not_held (leaves f) i (subst (λ n. is_held (leaves f) n ≡ false) o e)))
      (subst (λ k. get_or (leaves k) j 0 ≡ 0) (sym s) (not_held (leaves f) j g)) w))

-- ---- the calls of one time

pub next_two : (t u : ℕ) → t < u → u ≤ 2 + t → (u ≡ suc t) ⊎ (u ≡ suc (suc t))
next_two t zero lt le = absurd (omega (arith, lt))
next_two zero (suc zero) lt le = inl refl
next_two zero (suc (suc zero)) lt le = inr refl
next_two zero (suc (suc (suc u))) lt le = absurd (omega (arith, le))
next_two (suc t) (suc u) lt le = by (next_two t u (omega (arith, lt)) (omega (arith, le)))
  where
    by : (u ≡ suc t) ⊎ (u ≡ suc (suc t)) → (suc u ≡ suc (suc t)) ⊎ (suc u ≡ suc (suc (suc t)))
    by (inl e) = inl (ap suc e)
    by (inr e) = inr (ap suc e)

module _ (ls : List ℕ) where
  ahead_of : (rows : List CallInstance)
      → ((t u : ℕ) (r q : CallInstance) → t < u → u ≤ 2 + t → slice_get rows t ≡ Some r → slice_get rows u ≡ Some q
      → is_clear ls r q ≡ true) → are_ahead ls rows ≡ true
  ahead_of [] h = refl
  ahead_of (r ∷ rows) h =
      both_true (is_ahead ls r rows) (are_ahead ls rows)
      (first rows (λ u q lt at. h 0 (suc u) r q (omega arith) (omega (arith, lt)) refl at))
      (ahead_of rows (λ t u x y lt le at to. h (suc t) (suc u) x y (omega (arith, lt)) (omega (arith, le)) at to))
    where
      first : (rows : List CallInstance)
          → ((u : ℕ) (q : CallInstance) → u < 2 → slice_get rows u ≡ Some q → is_clear ls r q ≡ true)
          → is_ahead ls r rows ≡ true
      first [] g = refl
      first (q ∷ []) g = g 0 q (omega arith) refl
      first (q ∷ p ∷ rest) g =
          both_true (is_clear ls r q) (is_clear ls r p) (g 0 q (omega arith) refl) (g 1 p (omega arith) refl)

-- ---- of each time

taken : {A : Type 0} (c : ℕ) (xs : List A) (t : ℕ) (x : A) → slice_get (take c xs) t ≡ Some x
    → (t < c) × (slice_get xs t ≡ Some x)
taken zero xs t x e = absurd (cc e)
taken (suc c) [] t x e = absurd (cc e)
taken (suc c) (y ∷ xs) zero x e = (omega arith, e)
taken (suc c) (y ∷ xs) (suc t) x e = let h = taken c xs t x e in let l = h.0 in (omega (arith, l), h.1)

dropped : {A : Type 0} (n : ℕ) (xs : List A) (i : ℕ) → slice_get (drop n xs) i ≡ slice_get xs (n + i)
dropped zero xs i = let z : i ≡ 0 + i = omega arith in ap (slice_get xs) z
dropped (suc n) [] i = refl
dropped (suc n) (x ∷ xs) i =
    let z : suc (n + i) ≡ suc n + i = omega arith in dropped n xs i ∙ ap (slice_get (x ∷ xs)) z

-- items of a list from the start-th on
pub record IsPart {A : Type 0} (start count : ℕ) (all piece : List A) : Type 0 where
  pub at : (t : ℕ) (x : A) → slice_get piece t ≡ Some x → (t < count) × (slice_get all (start + t) ≡ Some x)

pub all_pieces : {A : Type 0} (test : List A → Bool) (n : ℕ) (counts : List ℕ) (all rest : List A)
    → ((i : ℕ) → slice_get all (n + i) ≡ slice_get rest i)
    → ((k : ℕ) (piece : List A) → IsPart (get_or (starts_from n counts) k 0) (get_or counts k 0) all piece
    → test piece ≡ true)
    → list_all test (cut counts rest) ≡ true
all_pieces test n [] all rest same h = refl
all_pieces test n (c ∷ counts) all rest same h =
    both_true (test (take c rest)) (list_all test (cut counts (drop c rest)))
    (h 0 (take c rest) (record { at = λ t x e. let g = taken c rest t x e in (g.0, same t ∙ g.1) }))
    (all_pieces test (n + c) counts all (drop c rest) (λ i.
    let z : n + c + i ≡ n + (c + i) = omega arith in
    ap (slice_get all) z ∙ same (c + i) ∙ sym (dropped c rest i)) (λ k piece p. h (suc k) piece p))

-- ---- a loop

module _ (leaves : ℕ → List ℕ) (kind : LoopKind) (rows : List CallInstance) (counts starts : List ℕ)
    (from : starts ≡ starts_from 0 counts) (f : ℕ) (same : HasForm f rows) where
  abbrev its : CallLoop
  its = record { kind = kind; rows = rows; counts = counts; starts = starts }

  form_at : (j : ℕ) (q : CallInstance) → slice_get rows j ≡ Some q → q.form ≡ f
  form_at j q at = each_at (λ (q : CallInstance). q.form ≡ f) rows j q same.each at

  abbrev start : ℕ → ℕ
  start k = get_or (starts_from 0 counts) k 0

  start_is : (k : ℕ) → get_or starts k 0 ≡ start k
  start_is k = ap (λ (ss : List ℕ). get_or ss k 0) from

  pub ahead_is : list_all (are_ahead (leaves f)) (cut counts rows) ≡ true → IsClearAhead (left leaves) its
  ahead_is e = record {
    each = λ k t u r q lt le less at to. clear_is leaves f r q (form_at _ r at) (form_at _ q to)
        (by k t u r q (next_two t u lt le) less
        (subst (λ s. slice_get rows (s + t) ≡ Some r) (start_is k) at)
        (subst (λ s. slice_get rows (s + u) ≡ Some q) (start_is k) to));
  }
    where
      by : (k t u : ℕ) (r q : CallInstance) → (u ≡ suc t) ⊎ (u ≡ suc (suc t)) → u < get_or counts k 0
          → slice_get rows (start k + t) ≡ Some r → slice_get rows (start k + u) ≡ Some q
          → is_clear (leaves f) r q ≡ true
      by k t u r q (inl is) less at to =
          one_ahead (leaves f) counts rows e k t r q (subst (λ u. u < get_or counts k 0) is less) at
          (subst (λ u. slice_get rows (start k + u) ≡ Some q) is to)
      by k t u r q (inr is) less at to =
          two_ahead (leaves f) counts rows e k t r q (subst (λ u. u < get_or counts k 0) is less) at
          (subst (λ u. slice_get rows (start k + u) ≡ Some q) is to)

  pub is_ahead_all : EachOf IsProper rows → IsClearAhead (left leaves) its
      → list_all (are_ahead (leaves f)) (cut counts rows) ≡ true
  is_ahead_all proper h =
      all_pieces (are_ahead (leaves f)) 0 counts rows rows
      (λ i. let z : 0 + i ≡ i = omega arith in ap (slice_get rows) z) (λ k piece p.
      ahead_of (leaves f) piece (λ t u r q lt le at to.
      let a = p.at t r at in
      let o = p.at u q to in
      is_clear_all leaves f r q (form_at (start k + t) r a.1) (form_at (start k + u) q o.1)
      (each_at IsProper rows (start k + t) r proper a.1) (each_at IsProper rows (start k + u) q proper o.1)
      (h.each k t u r q lt le o.0
      (subst (λ s. slice_get rows (s + t) ≡ Some r) (sym (start_is k)) a.1)
      (subst (λ s. slice_get rows (s + u) ≡ Some q) (sym (start_is k)) o.1))))
