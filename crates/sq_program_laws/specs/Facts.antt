-- What is to be known of a row of a call's table: each fact as sq_spec may give it.
use Rattle.std.specs.Prelude.{◌≡◌, ◌≢◌, ◌<◌, ℕ, ◌+◌, Bool, true, false, List, length, get_or, slice_get, Option, Some}
use Rattle.std.specs.Prelude.{None}
use Rattle.sq_leaf.specs.declared.shape.Shape.{Shape}
use Rattle.sq_ast.specs.declared.program.Mode.TheVariants.{Both}
use Rattle.sq_blocks.specs.declared.argument.Argument.{Argument}
use Rattle.sq_work.specs.declared.reduction.Reduction.{Reduction}
use Rattle.sq_spec.specs.declared.statement.CallInstance.{CallInstance}
use Rattle.sq_spec.specs.declared.body.FormBody.{FormBody}
use Rattle.sq_ast.specs.Modes.{is_written}
use Rattle.sq_blocks.specs.Arguments.{lengths}
use Rattle.sq_form_laws.specs.Laws.{NoAlias, Apart}
use Rattle.sq_placed.specs.declared.home.Home.{Home}
use Rattle.sq_placed.specs.declared.home.Home.TheVariants.{InPlace}
use Rattle.sq_placed.specs.declared.home.Homes.{Homes}
use Rattle.sq_cells.specs.Work.{Buffer}
use Rattle.sq_cells.specs.Lowered.{in_place}
use Rattle.sq_plan_laws.specs.Coordinates.{Fits}
use Rattle.sq_plan_laws.specs.Calling.{place_of}
use Rattle.sq_plan_laws.specs.Fitting.{whole}
use Rattle.sq_ir.specs.Events.{Leaves}
use Rattle.sq_cells.specs.Tree.{Cause}
use Rattle.sq_spec_laws.specs.TableRows.{Table}
use Rattle.sq_plan_laws.specs.Seated.{HasDims, IsNear}
use Rattle.sq_program_laws.specs.Rows.{RowFits}

-- an argument lies inside an array of the caller, and is of the type and extents of the callee's parameter
pub record ArgFacts (outer inner : List Shape) (i : ℕ) (a : Argument) : Type 0 where
  pub of : Shape
  pub there : slice_get outer a.array ≡ Some of
  pub inside : Fits a.rect of.extents
  pub to : Shape
  pub param : slice_get inner i ≡ Some to
  pub elem : to.elem ≡ of.elem
  pub extents : to.extents ≡ lengths a.rect

-- one argument of a `mapreduce`'s call is reduced into
pub record SumFacts (outer : List Shape) (r : Reduction) (args : List Argument) : Type 0 where
  pub at : ℕ
  pub sum : Argument
  pub there : slice_get args at ≡ Some sum
  pub reduced : sum.is_reduced ≡ true
  pub array : sum.array ≡ r.array
  pub mode : sum.mode ≡ Both
  pub of : Shape
  pub of_is : slice_get outer r.array ≡ Some of
  pub is_whole : sum.rect ≡ whole of.extents
  pub elem : of.elem ≡ r.elem
  pub others : (i : ℕ) (a : Argument) → slice_get args i ≡ Some a → i ≢ at → (a.is_reduced ≡ false)
      × (a.array ≢ r.array)

abbrev pub ReducedFacts : List Shape → Option Reduction → List Argument → Type 0
ReducedFacts outer None args = (i : ℕ) (a : Argument) → slice_get args i ≡ Some a → a.is_reduced ≡ false
ReducedFacts outer (Some r) args = SumFacts outer r args

abbrev pub home_at : Homes → ℕ → Home
home_at h i = get_or h.params i InPlace

pub record RowFacts (bodies : ℕ → FormBody) (homes : ℕ → Homes) (mays : ℕ → ℕ → Bool) (k : ℕ) (t : Table)
    (r : CallInstance) : Type 0 where
  pub args : (i : ℕ) (a : Argument) → slice_get r.args i ≡ Some a
      → ArgFacts (bodies k).arrays (bodies r.form).arrays i a
  pub alias : NoAlias r.args
  pub reduced : ReducedFacts (bodies k).arrays t.red r.args
  -- written arguments are of arrays that may be written, and a parameter that may be written has a written argument
  pub permitted : (i : ℕ) (a : Argument) → slice_get r.args i ≡ Some a → is_written a.mode ≡ true → mays k a.array
      ≡ true
  pub modes : (i : ℕ) (a : Argument) → slice_get r.args i ≡ Some a → mays r.form i ≡ true → is_written a.mode ≡ true
  -- as many arguments as parameters, and a buffer for each local
  pub many : length r.args ≡ length (homes r.form).params
  pub locals : length (bodies r.form).arrays ≡ length (homes r.form).params + length (homes r.form).locals
  -- the homes
  pub apart : (i : ℕ) → in_place (place_of (home_at (homes r.form) i)) ≡ true → i < length r.args → Apart r.args i
  pub sum_home : (i : ℕ) (a : Argument) → slice_get r.args i ≡ Some a → a.is_reduced ≡ true
      → place_of (home_at (homes r.form) i) ≡ Buffer
  -- in the caller's array only a call at the same level has a parameter
  pub near : (i : ℕ) → i < length r.args → IsNear t.lower (home_at (homes r.form) i)
  pub dims : (i : ℕ) (sh : Shape) → slice_get (bodies r.form).arrays i ≡ Some sh → HasDims sh.extents

-- A row of which the facts are known fits.
abbrev pub FactsFit : Type 0
FactsFit = (leaves : Leaves Cause) (bodies : ℕ → FormBody) (homes : ℕ → Homes) (mays : ℕ → ℕ → Bool) (k : ℕ) (t : Table)
    (r : CallInstance) → RowFacts bodies homes mays k t r → RowFits leaves bodies homes mays k t r
