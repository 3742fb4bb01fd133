-- A plan made by hand: parts of each kind beside one another, over the first buffer of a root with two children.
use Rattle.std.specs.Prelude.{ℕ, ℤ, pos, List, [], ◌∷◌}
use Rattle.sq_num.specs.declared.Elem.TheVariants.{Byte}
use Rattle.sq_text.specs.declared.spread.SpreadRule.{SpreadRule}
use Rattle.sq_ir.specs.Examples.{nodes, buffer, slot}
use Rattle.sq_ir.specs.declared.num.Num.{Num}
use Rattle.sq_ir.specs.declared.num.Num.TheVariants as n
use Rattle.sq_ir.specs.declared.term.Action.TheVariants as action
use Rattle.sq_ir.specs.declared.term.Term.{Term}
use Rattle.sq_ir.specs.declared.term.Term.TheVariants as t
use Rattle.sq_ir.specs.declared.plan.Plan.{Plan}

-- four bytes
abbrev pub fill : (at : Num) → (value : ℤ) → Term
fill at value = t.Act (action.FillRow (slot 0 at) Byte 4 value)

abbrev pub first_fill : (value : ℤ) → Term
first_fill value = fill (n.Const (pos 0)) value

-- a leaf call without arrays
abbrev pub call : (path : ℕ) → Term
call path = t.Act (action.Leaf 0 [] (n.Const (pos path) ∷ []))

-- two leaf calls beside one another, and then a fill
abbrev pub calls : (first second : ℕ) → Term
calls first second = t.Seq (t.Par (call first ∷ call second ∷ []) ∷ first_fill (pos 5) ∷ [])

-- a fill for 0, another one for 1, and the calls for 2
abbrev pub choice : (pick first second : ℕ) → Term
choice pick first second =
    t.Case (n.Const (pos pick)) (first_fill (pos 1) ∷ first_fill (pos 2) ∷ calls first second ∷ [])

-- Fills that begin at the bytes of their numbers: over the children,
abbrev pub spread : SpreadRule → (count : ℕ) → Term
spread rule count = t.Spread (n.Const (pos count)) rule (fill (n.Index 0) (pos 3))

-- and in turn.
abbrev pub turn : Term
turn = t.Seq (t.Skip ∷ fill (n.Index 0) (pos 4) ∷ [])

abbrev pub turns : (count : ℕ) → Term
turns count = t.Loop (n.Const (pos count)) turn

abbrev pub parts : SpreadRule → (pick spread turns first second : ℕ) → List Term
parts rule pick count times first second = choice pick first second ∷ spread rule count ∷ turns times ∷ []

-- a term over these buffers
abbrev pub over : Term → Plan
over term =
    record {
      draft = record { term = term; buffers = buffer 0 16 ∷ buffer 1 8 ∷ []; leaves = []; entry = 0 ∷ []; notes = [] };
      offsets = 0 ∷ 0 ∷ [];
      nodes = nodes;
    }

abbrev pub mixed : SpreadRule → (pick spread turns first second : ℕ) → Plan
mixed rule pick count times first second = over (t.Par (parts rule pick count times first second))
