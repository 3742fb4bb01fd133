-- What is computed at the turns of a block, whatever each of them meets.
use Rattle.std.specs.Prelude.{◌≡◌, ℕ, ◌<◌, Bool, true, false, List, [], ◌∷◌, ◌++◌, map, Option, Some, None, Result, Ok, Err, ℤ, pos, ◌+ℤ◌}
use Rattle.std.specs.Int.{int_min, int_max}
use Rattle.sq_num.specs.declared.Elem.{Elem}
use Rattle.sq_rect.specs.declared.view.View.{View}
use Rattle.sq_columns.specs.declared.line.Line.{Line}
use Rattle.sq_columns.specs.Lines.{line_at, first_byte, IsSpot}
use Rattle.sq_leaf.specs.declared.trap.Trap.{Trap}
use Rattle.sq_leaf.specs.declared.code.Code.{Code}
use Rattle.sq_ast.specs.declared.expr.BinOp.TheVariants.{Mul}
use Rattle.sq_leaf.specs.Numbers.{binary}
use Rattle.sq_leaf.specs.Outcome.{and_then}
use Rattle.sq_leaf.specs.Places as places
use Rattle.sq_leaf.specs.Running.{CodeRun, StepRun, CellRun, ActionRun, Ran, repeats, run_code, load_from}
use Rattle.sq_turns.specs.declared.setting.Setting.{Setting}
use Rattle.sq_deeds.specs.Puts.{LiesIn}
use Rattle.sq_turns.specs.Blocks.{IsMet}

-- the counters within turn j
abbrev pub counters_at : Setting → ℕ → List ℤ
counters_at t j = t.frame.now.counters ++ (t.block.now.from +ℤ pos j) ∷ []

-- what this is at turn j, which meets the bytes c
abbrev pub at_turn : {A : Type 0} → (List View → List ℤ → List ℕ → A) → Setting → ℕ → List ℕ → A
at_turn f t j c = f t.frame.now.views (counters_at t j) c

-- this is so at each turn j, whatever bytes c it meets
abbrev pub AtTurns : Setting → (ℕ → List ℕ → Type 0) → Type 0
AtTurns t P = (j : ℕ) (c : List ℕ) → j < t.block.now.turns → IsMet t.block.now j t.bytes.now c → P j c

-- the turns one after another, each of which does this
abbrev pub all_turns : Setting → ActionRun → Ran
all_turns t f = repeats t.block.now.turns t.block.now.from (λ k. f t.frame.now.views (t.frame.now.counters ++ k ∷ [])) t.bytes.now

-- ---- numbers

-- this gives the line's numbers
pub record Gives (t : Setting) (f : CodeRun) (l : Line) (column : List ℤ) : Type 0 where
  pub each : AtTurns t (λ j c. at_turn f t j c ≡ Ok (line_at l column j))

-- f of the first line's numbers is what g gives of the second's
pub record Follows (t : Setting) (f g : StepRun) (x : Line) (xs : List ℤ) (y : Line) (ys : List ℤ) : Type 0 where
  pub each : AtTurns t (λ j c. at_turn f t j c (line_at x xs j) ≡ at_turn g t j c (line_at y ys j))

-- a number as it is
abbrev pub value_alone : StepRun
value_alone vs ks c x = Ok x

-- the lesser or the greater of two numbers
abbrev pub extreme : Bool → ℤ → ℤ → ℤ
extreme true x y = int_max x y
extreme false x y = int_min x y

-- that of a number and of what is read
abbrev pub extreme_of : Bool → CodeRun → StepRun
extreme_of most f vs ks c x = and_then (f vs ks c) (λ y. Ok (extreme most x y))

-- ---- elements

-- this gives the elements whose first bytes are the line's numbers
pub record Places (t : Setting) (f : CellRun) (e : Elem) (l : Line) (column : List ℤ) : Type 0 where
  pub each : AtTurns t (λ j c. at_turn f t j c ≡ Ok (record { elem = e; at = first_byte l column j }))

-- the elements lie between two bytes of the memory
abbrev pub LieIn : Setting → ℕ → ℕ → Elem → Line → List ℤ → Type 0
LieIn t low high e l column = (j : ℕ) → j < t.block.now.turns → LiesIn low high e l column j

-- the number of an element
abbrev pub load_of : CellRun → CodeRun
load_of f vs ks c = load_from (f vs ks c) c

-- the product of a number and that of an element
abbrev pub times_of : CellRun → StepRun
times_of f vs ks c x = and_then (load_of f vs ks c) (λ y. Ok (binary Mul x y))

-- ---- indices

-- one more dimension in front, by its index
abbrev pub along_value : Result ℤ Trap → ℕ → ℕ → Option ℕ → Option ℕ
along_value (Ok i) n s behind = places.along i n s behind
along_value (Err t) n s behind = None

-- how many elements stand before the element of these indices
abbrev pub offset_by : List ℕ → List ℕ → List (Result ℤ Trap) → Option ℕ
offset_by [] [] [] = Some 0
offset_by (n ∷ ns) (s ∷ ss) (i ∷ is) = along_value i n s (offset_by ns ss is)
offset_by _ _ _ = None

abbrev pub Offset : Type 0
Offset = List View → List ℤ → List ℕ → Option ℕ

abbrev pub offset_of : List ℕ → List ℕ → List Code → Offset
offset_of ns ss codes vs ks c = offset_by ns ss (map (λ f. f vs ks c) (map run_code codes))

-- the same with one more dimension in front
abbrev pub offset_along : CodeRun → ℕ → ℕ → Offset → Offset
offset_along f n s behind vs ks c = along_value (f vs ks c) n s (behind vs ks c)

-- the offsets are those of the elements whose first bytes are the line's numbers
pub record AreSpots (t : Setting) (offset : Offset) (at w most : ℕ) (l : Line) (column : List ℤ) : Type 0 where
  pub steady : AtTurns t (λ j c. at_turn offset t j c ≡ at_turn offset t j t.bytes.now)
  pub spot : (j : ℕ) → j < t.block.now.turns → IsSpot at w most (at_turn offset t j t.bytes.now) (line_at l column j)
