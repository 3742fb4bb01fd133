-- What a run needs before the bank is opened.
use Rattle.std.specs.Prelude.{◌≡◌, ℕ, List, [], ◌∷◌, map, get_or, Option, Some, None}
use Rattle.sq_text.specs.declared.fault.Arg.{Arg}
use Rattle.sq_text.specs.declared.fault.Arg.TheVariants.{Word}
use Rattle.sq_arrays.specs.Arrays.{Wanted, wanted}
use Rattle.sq_ir.specs.Plans.{tree_of}
use Rattle.sq_ir.specs.declared.plan.Plan.{Plan}
use Rattle.sq_planfile.specs.declared.entry.EntryArray.{EntryArray}
use Rattle.sq_launch.specs.Arrays.{wants_of, read_places}
use Rattle.sq_launch.specs.declared.launch.Launch.{Launch}

-- the arguments of the faults that the data may have, one for each array that is wanted
abbrev pub fault_args : List Wanted → List (List Arg)
fault_args ws = map (λ w. Word w.name ∷ []) ws

-- those of the array of that number, and none where no array is wanted
abbrev pub args_at : List (List Arg) → Option ℕ → List Arg
args_at all None = []
args_at all (Some array) = get_or all array []

-- all that the run of a plan on these arrays needs
pub record IsLaunch (p : Plan) (arrays : List EntryArray) (l : Launch) : Type 0 where
  pub plan_is : l.plan.value ≡ p
  pub control_is : l.control ≡ record { plan = p; left = tree_of p; ended = None }
  pub wants_are : map wanted l.wants.items ≡ wants_of arrays
  pub read_are : l.read.items ≡ read_places p arrays
  pub faults_are : l.faults.items ≡ fault_args (wants_of arrays)
