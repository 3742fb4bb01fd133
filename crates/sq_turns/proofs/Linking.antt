-- Operators at the turns of a block.
use Rattle.std.proofs.Common.{◌≡◌, ℕ, ◌<◌, ◌≤◌, ◌&&◌, ◌||◌, Bool, true, false, not, List, ◌++◌, length, Option, Some, None, Result, Ok, Err, ℤ, pos, refl, sym, ◌∙◌, ap, arith, IfSome, if◌then◌else◌}
use Rattle.sq_rect.specs.declared.view.View.{View}
use Rattle.sq_leaf.specs.Text.declared.place.Place.{Place}
use Rattle.sq_ast.specs.declared.expr.BinOp.{BinOp}
use Rattle.sq_ast.specs.declared.expr.BinOp.TheVariants as op
use Rattle.sq_columns.specs.declared.line.Line.{Line}
use Rattle.sq_columns.specs.Lines.{line_at, divides}
use Rattle.sq_leaf.specs.declared.trap.Trap.{Trap}
use Rattle.sq_leaf.specs.declared.code.Step.{Step, out-Step}
use Rattle.sq_leaf.specs.declared.code.Code.TheFolds.{fold_out-Step}
use Rattle.sq_leaf.specs.Numbers.{truth, is_zero, binary}
use Rattle.sq_leaf.specs.Outcome.{and_then}
use Rattle.sq_leaf.specs.Source.{linked}
use Rattle.sq_leaf.specs.Running.{run_code, run_step, CodeRun, CellRun, StepRun, code_step, cell_step, step_step}
use Rattle.sq_turns.specs.declared.setting.Setting.{Setting}
use Rattle.sq_turns.specs.Settings.{counters_at, Gives, Follows, value_alone, extreme, extreme_of}
use Rattle.sq_turns.proofs.Spotting.{line_front}

abbrev Right : ℤ → Result ℤ Trap
Right x = Ok x

both : (a b : Bool) → (if a then Right (pos 0) else Right (truth (not a && not b))) ≡ Right (truth (not a && not b))
both true b = refl
both false b = refl

either : (a b : Bool) → (if a then Right (truth (not a || not b)) else Right (pos 1)) ≡ Right (truth (not a || not b))
either true b = refl
either false b = refl

not_zero : (b : Bool) (t : Trap) (z : ℤ) → b ≡ false → (if b then Err t else Ok z) ≡ Ok z
not_zero true t z h = cc
not_zero false t z h = refl

-- an operator whose right side is computed, and isn't a zero divisor
pub linked_is : (o : BinOp) (place : Place) (x y : ℤ) → (divides o ≡ true → is_zero y ≡ false) → linked o place x (Ok y) ≡ Ok (binary o x y)
linked_is op.AndAlso place x y h = both (is_zero x) (is_zero y)
linked_is op.OrElse place x y h = either (is_zero x) (is_zero y)
linked_is op.Div place x y h = not_zero (is_zero y) _ _ (h refl)
linked_is op.Rem place x y h = not_zero (is_zero y) _ _ (h refl)
linked_is op.Or place x y h = refl
linked_is op.Xor place x y h = refl
linked_is op.And place x y h = refl
linked_is op.Same place x y h = refl
linked_is op.Differ place x y h = refl
linked_is op.Less place x y h = refl
linked_is op.AtMost place x y h = refl
linked_is op.More place x y h = refl
linked_is op.AtLeast place x y h = refl
linked_is op.Shl place x y h = refl
linked_is op.Shr place x y h = refl
linked_is op.Add place x y h = refl
linked_is op.Sub place x y h = refl
linked_is op.Mul place x y h = refl

pub step_is : (s : Step) (vs : List View) (ks : List ℤ) (b : List ℕ) (x : ℤ) → run_step s vs ks b x ≡ linked (out-Step s).op (out-Step s).place x (run_code (out-Step s).right vs ks b)
step_is s vs ks b x = ap (λ (f : StepRun). f vs ks b x) (fold_out-Step CodeRun CellRun StepRun code_step cell_step step_step s)

step_follows : (t : Setting) (s : Step) (x y l : Line) (xs ys zs : List ℤ) → Gives t (run_code (out-Step s).right) y ys
    → ((j : ℕ) → j < t.block.now.turns → line_at l zs j ≡ binary (out-Step s).op (line_at x xs j) (line_at y ys j)) → (divides (out-Step s).op ≡ true → (j : ℕ) → j < t.block.now.turns → is_zero (line_at y ys j) ≡ false)
    → Follows t value_alone (run_step s) l zs x xs
step_follows t s x y l xs ys zs right h g = record {
  each = λ j d below met.
      ap Ok (h j below) ∙ (sym (linked_is (out-Step s).op (out-Step s).place (line_at x xs j) (line_at y ys j) (λ e. g e j below))
      ∙ (ap (linked (out-Step s).op (out-Step s).place (line_at x xs j)) (sym (right.each j d below met)) ∙ sym (step_is s t.frame.now.views (counters_at t j) d (line_at x xs j))));
}

pub next_follows : (t : Setting) (s : Step) (x y : Line) (o : Option Line) (xs ys zs : List ℤ) → Gives t (run_code (out-Step s).right) y ys
    → IfSome o (λ l. (j : ℕ) → j < t.block.now.turns → line_at l zs j ≡ binary (out-Step s).op (line_at x xs j) (line_at y ys j)) → IfSome o (λ l. divides (out-Step s).op ≡ true → (j : ℕ) → j < t.block.now.turns → is_zero (line_at y ys j) ≡ false)
    → IfSome o (λ l. Follows t value_alone (run_step s) l zs x xs)
next_follows t s x y (Some l) xs ys zs right h g = step_follows t s x y l xs ys zs right h g
next_follows t s x y None xs ys zs right h g = h

-- in the first of the columns
pub follows_front : (t : Setting) (f : StepRun) (x : Line) (o : Option Line) (all front rest new_front new_rest : List ℤ)
    → all ≡ front ++ rest → t.block.now.turns ≤ length front → t.block.now.turns ≤ length new_front
    → IfSome o (λ l. Follows t value_alone f l new_front x front) → IfSome o (λ l. Follows t value_alone f l (new_front ++ new_rest) x all)
follows_front t f x None all front rest new_front new_rest e room new_room h = h
follows_front t f x (Some l) all front rest new_front new_rest e room new_room h = record {
  each = λ j d below met.
      ap Ok (line_front l (new_front ++ new_rest) new_front new_rest j refl (omega (arith, below, new_room)))
      ∙ (h.each j d below met ∙ ap (f t.frame.now.views (counters_at t j) d) (sym (line_front x all front rest j e (omega (arith, below, room)))));
}

pub extreme_follows : (t : Setting) (most : Bool) (f : CodeRun) (x y l : Line) (xs ys zs : List ℤ) → Gives t f y ys
    → ((j : ℕ) → j < t.block.now.turns → line_at l zs j ≡ extreme most (line_at x xs j) (line_at y ys j)) → Follows t value_alone (extreme_of most f) l zs x xs
extreme_follows t most f x y l xs ys zs right h = record {
  each = λ j d below met. ap Ok (h j below) ∙ ap (λ (r : Result ℤ Trap). and_then r (λ w. Ok (extreme most (line_at x xs j) w))) (sym (right.each j d below met));
}
