-- Elements that a block reads, as they were before it.
use Rattle.std.proofs.Common.{◌≡◌, ℕ, ◌+◌, ◌<◌, ◌≤◌, List, length, Option, Some, None, Result, Ok, ℤ, sym, ◌∙◌, ap, arith, IfSome}
use Rattle.sq_ast.specs.declared.expr.BinOp.TheVariants.{Mul}
use Rattle.sq_num.specs.declared.Elem.{Elem}
use Rattle.sq_num.specs.Elements.{width}
use Rattle.sq_columns.specs.declared.line.Line.{Line}
use Rattle.sq_columns.specs.Lines.{line_at, first_byte, IsFirst}
use Rattle.sq_leaf.specs.declared.trap.Trap.{Trap}
use Rattle.sq_leaf.specs.declared.spot.Spot.{Spot}
use Rattle.sq_leaf.specs.Numbers.{binary}
use Rattle.sq_leaf.specs.Outcome.{and_then}
use Rattle.sq_leaf.specs.Spots.{load}
use Rattle.sq_leaf.specs.Running.{CellRun, load_from}
use Rattle.sq_turns.specs.declared.setting.Setting.{Setting}
use Rattle.sq_deeds.specs.Puts.{LiesIn}
use Rattle.sq_turns.specs.Blocks.{AreClear}
use Rattle.sq_turns.specs.Settings.{AtTurns, at_turn, Gives, Follows, Places, load_of, times_of, value_alone}
use Rattle.sq_turns.proofs.Meeting.{load_clear}

pub are_first : (t : Setting) (e : Elem) (spots : Line) (column : List ℤ) (low high size : ℕ) → ((j : ℕ) → j < t.block.now.turns → LiesIn low high e spots column j) → high ≤ size
    → (j : ℕ) → j < t.block.now.turns → IsFirst (width e) size (line_at spots column j)
are_first t e spots column low high size lies within j below =
    let here : LiesIn low high e spots column j = lies j below in
    let end : first_byte spots column j + width e ≤ high = here.ends in
    record { natural = here.is; ends = omega (arith, end, within) }

-- what a turn reads there, whatever it meets
read_there : (t : Setting) (f : CellRun) (e : Elem) (spots : Line) (old : List ℤ) (low high : ℕ) → Places t f e spots old → AreClear t.block.now e (first_byte spots old)
    → ((j : ℕ) → j < t.block.now.turns → LiesIn low high e spots old j) → high ≤ length t.bytes.now
    → AtTurns t (λ j c. at_turn (load_of f) t j c ≡ Ok (load (record { elem = e; at = first_byte spots old j }) t.bytes.now))
read_there t f e spots old low high places clear lies within j c below met =
    let here : LiesIn low high e spots old j = lies j below in
    let end : first_byte spots old j + width e ≤ high = here.ends in
    let fits : first_byte spots old j + width e ≤ length t.bytes.now = omega (arith, end, within) in
    ap (λ (r : Result Spot Trap). load_from r c) (places.each j c below met)
    ∙ ap Ok (load_clear t.block.now j t.bytes.now c e (first_byte spots old j) met fits (λ k from less. clear.each j k below from less))

pub loaded_gives : (t : Setting) (f : CellRun) (e : Elem) (spots : Line) (old : List ℤ) (l : Line) (new : List ℤ) (low high : ℕ) → Places t f e spots old
    → AreClear t.block.now e (first_byte spots old) → ((j : ℕ) → j < t.block.now.turns → LiesIn low high e spots old j) → high ≤ length t.bytes.now
    → ((j : ℕ) → j < t.block.now.turns → line_at l new j ≡ load (record { elem = e; at = first_byte spots old j }) t.bytes.now) → Gives t (load_of f) l new
loaded_gives t f e spots old l new low high places clear lies within loaded = record {
  each = λ j c below met. read_there t f e spots old low high places clear lies within j c below met ∙ ap Ok (sym (loaded j below));
}

-- products with numbers that are known
pub times_known : (t : Setting) (f : CellRun) (x y : Line) (o : Option Line) (xs ys zs : List ℤ) → Gives t (load_of f) y ys
    → IfSome o (λ l. (j : ℕ) → j < t.block.now.turns → line_at l zs j ≡ binary Mul (line_at x xs j) (line_at y ys j)) → IfSome o (λ l. Follows t value_alone (times_of f) l zs x xs)
times_known t f x y None xs ys zs right h = h
times_known t f x y (Some l) xs ys zs right h = record {
  each = λ j c below met. ap Ok (h j below) ∙ ap (λ (r : Result ℤ Trap). and_then r (λ w. Ok (binary Mul (line_at x xs j) w))) (sym (right.each j c below met));
}

-- products with elements that are loaded as they are multiplied
pub times_follow : (t : Setting) (f : CellRun) (e : Elem) (spots : Line) (old : List ℤ) (x l : Line) (xs zs : List ℤ) (low high : ℕ) → Places t f e spots old
    → AreClear t.block.now e (first_byte spots old) → ((j : ℕ) → j < t.block.now.turns → LiesIn low high e spots old j) → high ≤ length t.bytes.now
    → ((j : ℕ) → j < t.block.now.turns → line_at l zs j ≡ binary Mul (line_at x xs j) (load (record { elem = e; at = first_byte spots old j }) t.bytes.now)) → Follows t value_alone (times_of f) l zs x xs
times_follow t f e spots old x l xs zs low high places clear lies within h = record {
  each = λ j c below met.
      ap Ok (h j below)
      ∙ ap (λ (r : Result ℤ Trap). and_then r (λ w. Ok (binary Mul (line_at x xs j) w))) (sym (read_there t f e spots old low high places clear lies within j c below met));
}
