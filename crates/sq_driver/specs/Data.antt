-- The faults of a data file.
use Rattle.std.specs.Prelude.{ℕ, List, [], ◌∷◌, Option, Some, None}
use Rattle.sq_text.specs.declared.code.Phase.TheVariants.{Input}
use Rattle.sq_text.specs.declared.code.Code.{Code}
use Rattle.sq_text.specs.declared.code.Code.TheVariants as code
use Rattle.sq_text.specs.declared.fault.Arg.{Arg}
use Rattle.sq_text.specs.declared.fault.Arg.TheVariants.{Word}
use Rattle.sq_text.specs.declared.fault.Fault.{Fault}
use Rattle.sq_arrays.specs.declared.refusal.InputCode.{InputCode}
use Rattle.sq_arrays.specs.declared.refusal.InputCode.TheVariants.{LimitFile, Syntax, Name, Shape, Range, Short, Extra}
use Rattle.sq_arrays.specs.Arrays.{DataFault}

abbrev pub code_for : InputCode → Code
code_for LimitFile = code.LimitFile
code_for Syntax = code.Syntax
code_for Name = code.Name
code_for Shape = code.Shape
code_for Range = code.Range
code_for Short = code.Short
code_for Extra = code.Extra

abbrev pub args_for : Option (List ℕ) → List Arg
args_for None = []
args_for (Some name) = Word name ∷ []

-- the fault of a data file, with the name of the array that is wanted at its place
abbrev pub data_fault : DataFault → Fault
data_fault its = record { phase = Input; code = code_for its.code; place = Some its.place; args = args_for its.name }
