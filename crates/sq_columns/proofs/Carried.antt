-- What is known of a line, at another name of it.
use Rattle.std.proofs.Common.{◌≡◌, ◌⊎◌, inl, inr, ◌+◌, ◌<◌, ◌≤◌, length, slice_set, ℕ, List, get_or, Option, Some, None, ℤ, pos, ◌+ℤ◌, ◌*ℤ◌, w64, FitsSigned, refl, sym, ◌∙◌, ap, arith}
use Rattle.std.specs.Prelude.{IfSome}
use Rattle.std.proofs.lemmas.Bool.{cases_lt}
use Rattle.std.proofs.lemmas.List.{get_or-set_same, get_or-set_other}
use Rattle.std.proofs.lemmas.Int.{ints, int_wrap_fits}
use Rattle.sq_ast.specs.declared.expr.BinOp.{BinOp}
use Rattle.sq_leaf.specs.Numbers.{wrapped, binary}
use Rattle.sq_columns.specs.declared.line.Line.{Line}
use Rattle.sq_columns.specs.declared.line.Line.TheVariants.{Same, Ramp, Column}
use Rattle.sq_columns.specs.Lines.{line_at}

-- a turn's number looks at that turn alone
pub same_turn : (l : Line) (xs ys : List ℤ) (j : ℕ) → get_or xs j (pos 0) ≡ get_or ys j (pos 0) → line_at l xs j ≡ line_at l ys j
same_turn (Same x) xs ys j h = refl
same_turn (Ramp a d) xs ys j h = refl
same_turn Column xs ys j h = h

-- a number is a ramp without a step
pub number_ramp : (x y : ℤ) (l : Line) → FitsSigned w64 x → y ≡ x → l ≡ Same x → (xs : List ℤ) (j : ℕ) → wrapped (y +ℤ pos 0 *ℤ pos j) ≡ line_at l xs j
number_ramp x y l fits same is xs j =
    let still : y +ℤ pos 0 *ℤ pos j ≡ y = omega (arith, ints) in
    ap wrapped (still ∙ same) ∙ int_wrap_fits w64 x fits ∙ ap (λ (k : Line). line_at k xs j) (sym is)

pub same_ramp : (l : Line) (a d b e : ℤ) → l ≡ Ramp a d → b ≡ a → e ≡ d → (xs : List ℤ) (j : ℕ) → wrapped (b +ℤ e *ℤ pos j) ≡ line_at l xs j
same_ramp l a d b e is first step xs j = (λ i. wrapped (first i +ℤ step i *ℤ pos j)) ∙ ap (λ (k : Line). line_at k xs j) (sym is)

pub on_ramps : (op : BinOp) (x y : Line) (r : Option Line) (a d b e : ℤ)
    → ((xs : List ℤ) (j : ℕ) → wrapped (a +ℤ d *ℤ pos j) ≡ line_at x xs j)
    → ((ys : List ℤ) (j : ℕ) → wrapped (b +ℤ e *ℤ pos j) ≡ line_at y ys j)
    → IfSome r (λ l. (zs : List ℤ) (j : ℕ) → line_at l zs j ≡ binary op (wrapped (a +ℤ d *ℤ pos j)) (wrapped (b +ℤ e *ℤ pos j)))
    → IfSome r (λ l. (xs ys zs : List ℤ) (j : ℕ) → line_at l zs j ≡ binary op (line_at x xs j) (line_at y ys j))
on_ramps op x y None a d b e left right h = h
on_ramps op x y (Some l) a d b e left right h = λ xs ys zs j. h zs j ∙ (λ i. binary op (left xs j i) (right ys j i))

-- a loop's turn puts one number
pub put_done : (f : ℕ → ℤ) (now : List ℤ) (j : ℕ) (x : ℤ) → j < length now → x ≡ f j → ((k : ℕ) → k < j → get_or now k (pos 0) ≡ f k)
    → (k : ℕ) → k < j + 1 → get_or (slice_set now j x) k (pos 0) ≡ f k
put_done f now j x inside is done k below = go (cases_lt k j)
  where
    go : (k < j) ⊎ (j ≤ k) → get_or (slice_set now j x) k (pos 0) ≡ f k
    go (inl before) = get_or-set_other now j k x (pos 0) (λ e. absurd (omega (arith, e))) ∙ done k before
    go (inr here) =
        let same : k ≡ j = omega arith in
        ap (λ (m : ℕ). get_or (slice_set now j x) m (pos 0)) same ∙ get_or-set_same now j x (pos 0) inside ∙ is ∙ ap f (sym same)

pub put_left : (now old : List ℤ) (j : ℕ) (x : ℤ) → ((k : ℕ) → j ≤ k → get_or now k (pos 0) ≡ get_or old k (pos 0)) → (k : ℕ) → j + 1 ≤ k → get_or (slice_set now j x) k (pos 0) ≡ get_or old k (pos 0)
put_left now old j x left k past = get_or-set_other now j k x (pos 0) (λ e. absurd (omega (arith, e))) ∙ left k (omega arith)
