-- The order in which two elements are combined into a third doesn't matter.
use Rattle.std.proofs.Common.{◌≡◌, ℕ, zero, suc, ◌-◌, ◌<◌, List, length, get_or, refl, sym, ap, ◌∙◌, subst, arith}
use Rattle.std.specs.Prelude.{reverse}
use Rattle.std.proofs.lemmas.List.{ext_get_or, length-reverse, get_or-reverse}
use Rattle.sq_num.specs.Elements.{width}
use Rattle.sq_ir.specs.Events as events
use Rattle.sq_ir.proofs.Together.{swap, long}
use Rattle.sq_cells.specs.Machine.{Op}
use Rattle.sq_cells.specs.Cells.{table}
use Rattle.sq_cells.specs.Tree.{combined, red_of, width_of}
use Rattle.sq_cells.specs.Correct.{AnyOrder}
use Rattle.sq_cells.proofs.Cells.{table_same}

pub length-table : (n : ℕ) (f : ℕ → ℕ) → length (table n f) ≡ n
length-table zero f = refl
length-table (suc n) f = ap suc (length-table n f)

pub get-table : (n : ℕ) (f : ℕ → ℕ) (i : ℕ) → i < n → get_or (table n f) i 0 ≡ f (n - suc i)
get-table zero f i h = absurd (omega arith)
get-table (suc n) f zero h = let e : n ≡ suc n - 1 = omega arith in ap f e
get-table (suc n) f (suc i) h = let e : n - suc i ≡ suc n - suc (suc i) = omega arith in get-table n f i (omega arith)
    ∙ ap f e

-- a list of an element's bytes, last one first, turned round
turned : (op : Op) (xs ys : List ℕ) → reverse (combined op xs ys)
    ≡ events.combined op.red op.elem (reverse xs) (reverse ys)
unfolding red_of width_of
turned op xs ys =
    let new = events.combined op.red op.elem (reverse xs) (reverse ys) in
    let w = width op.elem in
    let l = table w (λ b. get_or new b 0) in
    let len : length l ≡ w = length-table w (λ b. get_or new b 0) in
    ext_get_or 0 (reverse l) new (length-reverse l ∙ len ∙ sym (long op.red op.elem (reverse xs) (reverse ys))) (λ i lt.
    let below : i < length l = subst (λ k. i < k) (length-reverse l) lt in
    let e : w - suc (length l - 1 - i) ≡ i = omega (arith, len, below) in
    get_or-reverse l i 0 below ∙ get-table w (λ b. get_or new b 0) (length l - 1 - i) (omega (arith, len, below))
    ∙ ap (λ b. get_or new b 0) e)

one_byte : (op : Op) (a x y : List ℕ) (b : ℕ) → red_of op (combined op a x) y b ≡ red_of op (combined op a y) x b
unfolding red_of
one_byte op a x y b =
    ap (λ l. get_or (events.combined op.red op.elem l (reverse y)) b 0) (turned op a x)
    ∙ ap (λ l. get_or l b 0) (swap op.red op.elem (reverse a) (reverse x) (reverse y))
    ∙ sym (ap (λ l. get_or (events.combined op.red op.elem l (reverse x)) b 0) (turned op a y))

pub any_order : AnyOrder
any_order op a x y = table_same (width_of op) (red_of op (combined op a x) y) (red_of op (combined op a y) x)
    (λ b lt. one_byte op a x y b)
