-- The plan of a program's entry, which is called with whole arrays.
use Rattle.std.specs.Prelude.{◌≡◌, ℕ, ◌+◌, ◌<◌, Bool, true, false, List, length, take, Some}
use Rattle.std.specs.Prelude.{slice_get}
use Rattle.std.specs.List.{All}
use Rattle.sq_rect.specs.Placing.{IsIn}
use Rattle.sq_ast.specs.Modes.{is_read, is_written}
use Rattle.sq_leaf.specs.declared.shape.Shape.{Shape}
use Rattle.sq_leaf.specs.Source.{Arrays}
use Rattle.sq_blocks.specs.declared.argument.Argument.{Argument}
use Rattle.sq_work.specs.Meaning.{meaning}
use Rattle.sq_work.specs.InTurn.{IsRaceFree}
use Rattle.sq_spec.specs.declared.body.FormBody.{FormBody}
use Rattle.sq_ir.specs.Runs.{exec}
use Rattle.sq_ir.specs.Events as events
use Rattle.sq_ir.specs.Events.{Leaves, Bytes}
use Rattle.sq_ir.specs.Written.{Setting}
use Rattle.sq_placed.specs.declared.home.Homes.{Homes}
use Rattle.sq_placed.specs.Placed.{Placed, PlacedArg, PlacedCall, Call, plain}
use Rattle.sq_placed.specs.Tables.{entry_placed}
use Rattle.sq_cells.specs.Cells.{spot, State}
use Rattle.sq_cells.specs.Tree.{Cause}
use Rattle.sq_plan_laws.specs.Codes.{loaded}
use Rattle.sq_plan_laws.specs.OnBytes.{work}
use Rattle.sq_plan_laws.specs.Fitting.{whole}
use Rattle.sq_plan_laws.specs.PlacedEntry.{EntryStowed}
use Rattle.sq_plan_laws.specs.LeafLaws.{codes_of}
use Rattle.sq_plan_laws.specs.Seated.{HasDims, Sits, at_node}
use Rattle.sq_plan_laws.specs.Entry.{form_at, plan_tree, held_in, EndsSo, IsPlan}
use Rattle.sq_program_laws.specs.Rows.{FormsFit}

-- ---- what the memory holds at the start

-- all of the i-th array
pub record IsWhole (outer : List Shape) (i : ℕ) (a : Argument) : Type 0 where
  pub array : a.array ≡ i
  pub shape : Shape
  pub there : slice_get outer i ≡ Some shape
  pub rect : a.rect ≡ whole shape.extents

abbrev pub AreWhole : (outer : List Shape) → List PlacedArg → Type 0
AreWhole outer args = (i : ℕ) (p : PlacedArg) → slice_get args i ≡ Some p → IsWhole outer i p.argument

-- the arrays that are read hold what is loaded from the bytes; of the others nothing is known
pub record ReadCodes (outer : List Shape) (args : List PlacedArg) (a : Arrays) (s : State) : Type 0 where
  pub at : (n : ℕ) (p : PlacedArg) (sh : Shape) (cs : List ℕ) → slice_get args n ≡ Some p → is_read p.argument.mode
      ≡ true
      → slice_get outer n ≡ Some sh → IsIn sh.extents cs → a n cs ≡ loaded sh (λ k. s (spot n k)) cs

-- Whatever bytes there are, those of arrays that are only written included, the run ends as the source means on the
-- numbers that stand in the buffers of arrays that are read.
abbrev pub EntriesFollow : Type 0
EntriesFollow = (s : Setting) (leaves : Leaves Cause) (outer : List Shape) (buffers : List ℕ) (may : ℕ → Bool)
    (c : PlacedCall) (w : Placed) → IsPlan s leaves outer buffers may (Call c w) → AreWhole outer c.args
    → length c.args ≡ length outer
    → (a : Arrays) (m : Bytes) → ReadCodes outer c.args a (held_in s buffers m)
    → EndsSo s outer buffers (meaning (plain (Call c w)) a)
    (exec (events.meaning leaves) (plan_tree s (Call c w) outer buffers) m)

-- ---- the entry of tables that fit

-- the entry's arguments are its arrays, whole, and none is what is reduced into
pub record EntryFacts (bodies : ℕ → FormBody) (homes : ℕ → Homes) (mays : ℕ → Bool) (args : List Argument) : Type 0
  where
    pub many : length args ≡ length (homes 0).params
    pub locals : length (bodies 0).arrays ≡ length (homes 0).params + length (homes 0).locals
    pub each : (i : ℕ) (a : Argument) → slice_get args i ≡ Some a → IsWhole (bodies 0).arrays i a
    pub reduced : (i : ℕ) (a : Argument) → slice_get args i ≡ Some a → a.is_reduced ≡ false
    pub modes : (i : ℕ) (a : Argument) → slice_get args i ≡ Some a → mays i ≡ true → is_written a.mode ≡ true
    pub dims : (n : ℕ) (sh : Shape) → slice_get (bodies 0).arrays n ≡ Some sh → HasDims sh.extents
    pub some : (n : ℕ) (sh : Shape) → slice_get (bodies 0).arrays n ≡ Some sh → All (λ k. 0 < k) sh.extents

-- the shapes of its parameters
abbrev pub entry_shapes : (ℕ → FormBody) → List Argument → List Shape
entry_shapes bodies args = take (length args) (bodies 0).arrays

abbrev pub anything : ℕ → Bool
anything i = true

-- What is placed of a program's entry sits as its tree needs, where the tables fit.
abbrev pub EntriesSit : Type 0
EntriesSit = (leaves : Leaves Cause) (bodies : ℕ → FormBody) (homes : ℕ → Homes) (mays : ℕ → ℕ → Bool)
    → FormsFit leaves bodies homes mays
    → (n : ℕ) (args : List Argument) → EntryFacts bodies homes (mays 0) args
    → Sits leaves (entry_placed bodies homes n args) (entry_shapes bodies args)

-- What is placed of a program's entry is a plan, where the tables fit, no race is in it, and its buffers stand apart.
abbrev pub EntriesArePlans : Type 0
EntriesArePlans = (s : Setting) (leaves : Leaves Cause) (bodies : ℕ → FormBody) (homes : ℕ → Homes)
    (mays : ℕ → ℕ → Bool)
    → FormsFit leaves bodies homes mays
    → (n : ℕ) (args : List Argument) → EntryFacts bodies homes (mays 0) args
    → (buffers : List ℕ) → length buffers ≡ length args
    → IsRaceFree (plain (entry_placed bodies homes n args))
    → EntryStowed (at_node s 0) (form_at s buffers) (entry_shapes bodies args)
    (work (codes_of leaves) s.offset (entry_placed bodies homes n args) (entry_shapes bodies args))
    → IsPlan s leaves (entry_shapes bodies args) buffers anything (entry_placed bodies homes n args)
