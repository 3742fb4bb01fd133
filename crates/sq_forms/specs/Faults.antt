-- The faults of the walk, and what a function that may stop it answers.
use Rattle.std.specs.Prelude.{◌≡◌, List, [], ◌∷◌, Option, Some, None, Result, Ok, Err}
use Rattle.std.specs.declared.alloc.AllocError.{AllocError}
use Rattle.sq_text.specs.declared.place.Place.{Place}
use Rattle.sq_text.specs.declared.fault.Fault.{Fault}
use Rattle.sq_text.specs.declared.fault.Arg.{Arg}
use Rattle.sq_text.specs.declared.fault.Arg.TheVariants.{Word}
use Rattle.sq_text.specs.declared.code.Code.{Code}
use Rattle.sq_text.specs.declared.code.Code.TheVariants as code
use Rattle.sq_text.specs.declared.code.Phase.TheVariants.{Resolve}
use Rattle.sq_text.specs.declared.fault.Stop.{Stop}
use Rattle.sq_text.specs.declared.fault.Stop.TheVariants.{Refused, NoMemory}
use Rattle.sq_text.specs.Names.{Bytes}
use Rattle.sq_blocks.specs.Constants.{Bad}
use Rattle.sq_blocks.specs.declared.fault.ConstFault.{ConstFault}
use Rattle.sq_blocks.specs.declared.fault.ConstFault.TheVariants as const

abbrev pub fault_with : Code → Place → List Arg → Fault
fault_with c place args = record { phase = Resolve; code = c; place = Some place; args = args }

abbrev pub fault_at : Code → Place → Fault
fault_at c place = fault_with c place []

-- the argument is the name at the place
abbrev pub fault_named : Code → Place → Bytes → Fault
fault_named c place name = fault_with c place (Word name ∷ [])

abbrev pub code_of : ConstFault → Code
code_of const.DivZero = code.DivZero
code_of const.Overflow = code.Overflow
code_of const.BlockIndex = code.BlockIndex
code_of const.BadChop = code.BadChop

-- at the operator
abbrev pub fault_of : Bad → Fault
fault_of bad = fault_at (code_of bad.0) bad.1

-- ---- values that may be at fault

abbrev pub Value : Type 0 → Type 0
Value A = Result A Fault

abbrev pub fault_in : {A : Type 0} → Value A → Option Fault
fault_in (Ok a) = None
fault_in (Err f) = Some f

abbrev pub value_or : {A : Type 0} → A → Value A → A
value_or b (Ok a) = a
value_or b (Err f) = b

abbrev pub and_then : {A B : Type 0} → Value A → (A → Value B) → Value B
and_then (Ok a) f = f a
and_then (Err e) f = Err e

-- ---- what the code answers: this, or that memory ran out

abbrev pub Stops : Stop → Fault → Type 0
Stops (Refused f) g = f ≡ g
Stops NoMemory g = Unit {0}

abbrev pub Makes : {A : Type 0} → Result A AllocError → A → Type 0
Makes (Ok a) b = a ≡ b
Makes (Err e) b = Unit {0}

-- the value, or the fault in its place
abbrev pub Gives : {A : Type 0} → Result A Stop → Value A → Type 0
Gives (Ok a) value = value ≡ Ok a
Gives (Err (Refused f)) value = value ≡ Err f
Gives (Err NoMemory) value = Unit {0}

-- nothing where nothing is at fault, else the fault
abbrev pub Passes : {A : Type 0} → Result A Stop → Option Fault → Type 0
Passes (Ok a) o = o ≡ None
Passes (Err (Refused f)) o = o ≡ Some f
Passes (Err NoMemory) o = Unit {0}

-- the value that is left, or the fault in its place
abbrev pub Leaves : {A B : Type 0} → Result A Stop → Value B → B → Type 0
Leaves (Ok a) value left = value ≡ Ok left
Leaves (Err (Refused f)) value left = value ≡ Err f
Leaves (Err NoMemory) value left = Unit {0}
