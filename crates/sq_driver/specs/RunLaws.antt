-- What is known of data, of places in the root, of plans and of their runs, as a command that runs a plan needs it.
use Rattle.std.specs.Prelude.{◌≡◌, ℕ, List, Ok, ℤ}
use Rattle.std.specs.List.{AllZip}
use Rattle.sq_arrays.specs.Arrays.{Wanted, AreValuesOf, arrays_of}
use Rattle.sq_leaf.specs.declared.trap.Trap.{Trap}
use Rattle.sq_ir.specs.PlanLaws.{HaveOneResult, HaveRuns}
use Rattle.sq_root.specs.PlaceLaws.{FlaggedParts, FlaggedFit, OthersAreClear}
use Rattle.sq_spec.specs.Entry.{IsEntry}
use Rattle.sq_spec.specs.declared.resolved.Resolved.{Resolved}
use Rattle.sq_compile.specs.Capacity.{LacksAreOne}
use Rattle.sq_compiled_laws.specs.Meant.Laws.{PlacesFit, InputsAreHeld, RunsEndAsMeant}
use Rattle.sq_launch.specs.Starts.{BanksHaveRoom, RootsAreTexts, StartsAreOne}

pub record RootLaws : Type 0 where
  pub values : (ws : List Wanted) (bytes : List ℕ) (vss : List (List ℤ)) → arrays_of ws bytes ≡ Ok vss
      → AllZip AreValuesOf ws vss
  pub picked : FlaggedParts
  pub fit : FlaggedFit
  pub others : OthersAreClear

-- of programs
pub record RunLaws : Type 0 where
  pub entry : (r : Resolved) → IsEntry r
  pub root : RootLaws
  pub places : PlacesFit
  pub held : InputsAreHeld
  pub ends : RunsEndAsMeant
  pub lacks : LacksAreOne

-- of plan files
pub record ExecLaws : Type 0 where
  pub runs : HaveRuns Trap
  pub result : HaveOneResult Trap
  pub room : BanksHaveRoom
  pub one : StartsAreOne
  pub texts : RootsAreTexts
