-- The arguments of a call: the blocks that they are.
use Rattle.std.specs.Prelude.{ℕ, ◌+◌, ℤ, Bool, false, List, [], ◌∷◌, Option, Some, None, Result, Ok, Err, slice_get}
use Rattle.std.specs.Map.{lookup}
use Rattle.sq_text.specs.declared.place.Place.{Place}
use Rattle.sq_text.specs.declared.place.Span.{Span}
use Rattle.sq_text.specs.declared.code.Code.TheVariants as code
use Rattle.sq_ast.specs.declared.expr.Expr.{Expr}
use Rattle.sq_ast.specs.declared.expr.ArgUse.{ArgUse, out-ArgUse}
use Rattle.sq_ast.specs.declared.program.Mode.{Mode}
use Rattle.sq_ast.specs.declared.program.Mode.TheVariants.{Input}
use Rattle.sq_ast.specs.declared.program.Param.{Param}
use Rattle.sq_text.specs.Names.{Bytes, same_name}
use Rattle.sq_blocks.specs.Names.{Numbers, Lists}
use Rattle.sq_blocks.specs.Constants.{Bad, worth}
use Rattle.sq_blocks.specs.Spans as spans
use Rattle.sq_blocks.specs.declared.fault.ConstFault.{ConstFault}
use Rattle.sq_forms.specs.declared.known.Array.{Array}
use Rattle.sq_forms.specs.declared.known.Blocks.{Blocks}
use Rattle.sq_forms.specs.declared.known.Known.{Known}
use Rattle.sq_forms.specs.declared.args.Block.{Block}
use Rattle.sq_blocks.specs.declared.argument.Argument.{Argument}
use Rattle.sq_forms.specs.Faults.{Value, fault_of, fault_named, fault_in, and_then}
use Rattle.sq_forms.specs.Steps.{Part, Counts, Tests}

-- what the names of a form stand for, numbers left aside
pub record Names : Type 0 where
  pub lists : Lists
  pub arrays : List (Bytes × Array)
  pub blocks : List (Bytes × Blocks)

abbrev pub names_of : Known → Names
names_of k = record { lists = k.lists; arrays = k.arrays.entries; blocks = k.blocks.entries }

-- ---- constants

abbrev pub at_fault : Result ℤ Bad → Value ℤ
at_fault (Ok n) = Ok n
at_fault (Err bad) = Err (fault_of bad)

abbrev pub worth_of : Expr → Numbers → Lists → Value ℤ
worth_of e numbers lists = at_fault (worth e numbers lists)

abbrev pub before : {A : Type 0} → A → Value (List A) → Value (List A)
before x xs = and_then xs (λ ys. Ok (x ∷ ys))

-- from left to right
abbrev pub worths : List Expr → Numbers → Lists → Value (List ℤ)
worths [] numbers lists = Ok []
worths (e ∷ es) numbers lists = and_then (worth_of e numbers lists) (λ n. before n (worths es numbers lists))

-- ---- blocks

abbrev pub of_array : ℕ → Option (List Span) → Option Block
of_array array None = None
of_array array (Some rect) = Some (record { array = array; rect = rect })

abbrev pub of_block : ℕ → Result (List Span) ConstFault → Option Block
of_block array (Ok rect) = Some (record { array = array; rect = rect })
of_block array (Err f) = None

abbrev pub all_of_array : Option Array → Option Block
all_of_array None = None
all_of_array (Some a) = of_array a.number (spans.wholes a.extents)

abbrev pub whole_array : Names → Bytes → Option Block
whole_array names name = all_of_array (lookup (same_name name) names.arrays)

abbrev pub block_of : List ℤ → Option Blocks → Option Block
block_of index None = None
block_of index (Some b) = of_block b.array (spans.block b.chop index)

abbrev pub block_in : Names → Bytes → List ℤ → Option Block
block_in names name index = block_of index (lookup (same_name name) names.blocks)

-- a block that isn't there is at fault
abbrev pub block_or_fault : ArgUse → Option Block → Value Block
block_or_fault a None = Err (fault_named code.BlockIndex (out-ArgUse a).place (out-ArgUse a).name)
block_or_fault a (Some b) = Ok b

-- an array without indices, or a block of a block set
abbrev pub block_by : Names → Numbers → ArgUse → List Expr → Value Block
block_by names numbers a [] = block_or_fault a (whole_array names (out-ArgUse a).name)
block_by names numbers a (e ∷ es) =
    and_then (worths (e ∷ es) numbers names.lists)
    (λ index. block_or_fault a (block_in names (out-ArgUse a).name index))

abbrev pub block : Names → Numbers → ArgUse → Value Block
block names numbers a = block_by names numbers a (out-ArgUse a).index

-- ---- arguments

abbrev pub mode_of : Option Param → Mode
mode_of None = Input
mode_of (Some p) = p.mode

-- whether it is the array that is reduced into
abbrev pub is_reduced : Option Bytes → ArgUse → Bool
is_reduced None a = false
is_reduced (Some name) a = same_name name (out-ArgUse a).name

abbrev pub argument : Names → Numbers → Option Bytes → Option Param → ArgUse → Value Argument
argument names numbers reduced param a =
    and_then (block names numbers a)
    (λ b. Ok (record { mode = mode_of param; is_reduced = is_reduced reduced a; array = b.array; rect = b.rect }))

-- those that are not at fault
abbrev pub with_value : {A : Type 0} → Value A → List A → List A
with_value (Ok x) xs = x ∷ xs
with_value (Err f) xs = xs

abbrev pub arguments : Names → Numbers → Option Bytes → List Param → ℕ → List ArgUse → List Argument
arguments names numbers reduced params i [] = []
arguments names numbers reduced params i (a ∷ rest) =
    with_value (argument names numbers reduced (slice_get params i) a)
    (arguments names numbers reduced params (i + 1) rest)

-- a use, where there is a map round it
abbrev pub use_step : Option Place → Part
use_step None later = later
use_step (Some place) later = Counts place ∷ later

-- each is counted, and then examined
abbrev pub args_steps : Option Place → Names → Numbers → Option Bytes → List Param → ℕ → List ArgUse → Part
args_steps outer names numbers reduced params i [] later = later
args_steps outer names numbers reduced params i (a ∷ rest) later =
    use_step outer (Tests (fault_in (argument names numbers reduced (slice_get params i) a))
    ∷ args_steps outer names numbers reduced params (i + 1) rest later)
