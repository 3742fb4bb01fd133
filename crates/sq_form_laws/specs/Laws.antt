-- What follows from the definitions of the walk.
use Rattle.std.specs.Prelude.{◌≡◌, ◌↔◌, ℕ, pos, ◌+◌, ◌<◌, ◌≤◌, Bool, true, false, length, slice_get, List, [], ◌∷◌, ◌++◌, Option, Some, None, Ok, Err}
use Rattle.sq_text.specs.declared.fault.Fault.{Fault}
use Rattle.sq_blocks.specs.Rect.Blocks.{Share}
use Rattle.sq_blocks.specs.Rect.Spans.{AreProper}
use Rattle.sq_text.specs.Names.{Bytes}
use Rattle.sq_ast.specs.declared.program.Extent.{Extent}
use Rattle.sq_ast.specs.declared.program.Extent.TheVariants as extent
use Rattle.sq_ast.specs.declared.program.Param.{Param}
use Rattle.sq_text.specs.declared.place.Place.{Place}
use Rattle.sq_text.specs.declared.code.Code.TheVariants as code
use Rattle.sq_forms.specs.Faults.{fault_at}
use Rattle.sq_ast.specs.declared.program.Variant.{Variant}
use Rattle.sq_forms.specs.Mappings.declared.mapping.Instance.{Instance}
use Rattle.sq_forms.specs.Mappings.declared.mapping.Mapping.{Mapping}
use Rattle.sq_forms.specs.declared.form.Caller.{Caller}
use Rattle.sq_forms.specs.declared.form.Found.{Found}
use Rattle.sq_forms.specs.Resolving.{Outcome, Resolving, with_locals, walk_of, resolution}
use Rattle.sq_forms.specs.Steps.{Step, State, Forms, Key, Opens, Counts, Tests, Calls, run, meet, most_uses, most_forms}
use Rattle.sq_blocks.specs.declared.argument.Argument.{Argument}
use Rattle.sq_forms.specs.Calls.{key_of, alias_from, flags, shape_from}
use Rattle.sq_ast.specs.Modes.{is_written}
use Rattle.sq_blocks.specs.Arguments.{lengths}

-- ---- the first fault

-- the first step at fault, with those before it, of which none is
pub record StopsAt (s : State) (steps : List Step) (f : Fault) : Type 0 where
  pub front : List Step
  pub at : Step
  pub rest : List Step
  pub all : steps ≡ front ++ at ∷ rest
  pub state : State
  pub passed : run s front ≡ Ok state
  pub fault : meet state at ≡ Err f

abbrev pub FirstFault : Type 0
FirstFault = (s : State) (steps : List Step) (f : Fault) → run s steps ≡ Err f → StopsAt s steps f

-- where the walk goes through, nothing that was tested is at fault
abbrev pub AllPassed : Type 0
AllPassed = (s t : State) (front : List Step) (o : Option Fault) (rest : List Step)
    → run s (front ++ Tests o ∷ rest) ≡ Ok t → o ≡ None

-- ---- forms

-- one key is one form: the same call of the same caller's form, the same instance, and the same flags and extents
pub record SameForm (form1 form2 call1 call2 instance1 instance2 : ℕ) (fs gs : List Bool)
    (es ds : List (List ℕ)) : Type 0 where
  pub form : form1 ≡ form2
  pub call : call1 ≡ call2
  pub instance : instance1 ≡ instance2
  pub flags : fs ≡ gs
  pub extents : es ≡ ds

abbrev pub KeyIsForm : Type 0
KeyIsForm = (form form2 call call2 instance instance2 : ℕ) (fs gs : List Bool) (es ds : List (List ℕ))
    → key_of form call instance fs es ≡ key_of form2 call2 instance2 gs ds
    → SameForm form form2 call call2 instance instance2 fs gs es ds

-- ---- what a call that passes gives

-- a coordinate of one array lies in both
pub record SharesElement (x y : Argument) : Type 0 where
  pub array : x.array ≡ y.array
  pub blocks : Share x.rect y.rect

-- no two written arguments share an element
abbrev pub NoAlias : List Argument → Type 0
NoAlias xs = (i j : ℕ) (x y : Argument) → i < j → slice_get xs i ≡ Some x → slice_get xs j ≡ Some y
    → is_written x.mode ≡ true → is_written y.mode ≡ true
    → SharesElement y x → ⊥

abbrev pub PassedIsUnaliased : Type 0
PassedIsUnaliased = (xs : List Argument) → alias_from 0 [] xs ≡ None → NoAlias xs

-- an argument in place shares no element with another, or neither is written; and it isn't reduced into
pub record Apart (xs : List Argument) (k : ℕ) : Type 0 where
  pub others : (j : ℕ) (x y : Argument) → (j ≡ k → ⊥) → slice_get xs k ≡ Some x → slice_get xs j ≡ Some y
      → SharesElement x y
      → (is_written x.mode ≡ false) × (is_written y.mode ≡ false)
  pub whole : (x : Argument) → slice_get xs k ≡ Some x → x.is_reduced ≡ false

abbrev pub InPlaceIsApart : Type 0
InPlaceIsApart = (same : Bool) (xs : List Argument) (k : ℕ) → slice_get (flags same xs) k ≡ Some true → Apart xs k

-- no block of an argument has an empty span
abbrev pub AreProperBlocks : List Argument → Type 0
AreProperBlocks xs = (i : ℕ) (x : Argument) → slice_get xs i ≡ Some x → AreProper x.rect

-- no argument is at fault exactly where no two that are written share an element
abbrev pub AliasIsExact : Type 0
AliasIsExact = (xs : List Argument) → AreProperBlocks xs → alias_from 0 [] xs ≡ None ↔ NoAlias xs

-- an argument is in place exactly where the call is at the same level and the argument is apart
abbrev pub FlagsAreExact : Type 0
FlagsAreExact = (same : Bool) (xs : List Argument) (k : ℕ) → AreProperBlocks xs → k < length xs
    → slice_get (flags same xs) k ≡ Some true ↔ (same ≡ true) × Apart xs k

-- where a size name has this value, this is the extent
abbrev pub IsExtent : (Bytes → ℕ) → Extent → ℕ → Type 0
IsExtent value (extent.Size place name) n = value name ≡ n
IsExtent value (extent.Fixed place m) n = m ≡ pos n

-- each extent of a parameter is that of its argument
abbrev pub Suits : (Bytes → ℕ) → List Extent → List ℕ → Type 0
Suits value es ns = (j : ℕ) (e : Extent) → slice_get es j ≡ Some e
    → (n : ℕ) × (slice_get ns j ≡ Some n) × IsExtent value e n

-- There is one value for each size name, with which every argument has the extents of its parameter.
pub record HaveShape (params : List Param) (xs : List Argument) : Type 0 where
  pub value : Bytes → ℕ
  pub each : (i : ℕ) (p : Param) (x : Argument) → slice_get params i ≡ Some p → slice_get xs i ≡ Some x
      → Suits value p.extents (lengths x.rect)

abbrev pub ShapeIsExact : Type 0
ShapeIsExact = (params : List Param) (xs : List Argument) → shape_from 0 [] params xs ≡ None ↔ HaveShape params xs

-- ---- uses

abbrev pub counts : List Step → ℕ
counts [] = 0
counts (Counts place ∷ rest) = 1 + counts rest
counts (Opens ∷ rest) = counts rest
counts (Tests o ∷ rest) = counts rest
counts (Calls c ∷ rest) = counts rest

-- no further outermost map begins
abbrev pub InOneMap : List Step → Type 0
InOneMap [] = Unit {0}
InOneMap (Opens ∷ rest) = ⊥
InOneMap (Counts place ∷ rest) = InOneMap rest
InOneMap (Tests o ∷ rest) = InOneMap rest
InOneMap (Calls c ∷ rest) = InOneMap rest

-- A use of an outermost map is at fault exactly where as many as are allowed were counted since it began.
abbrev pub LimitIsExact : Type 0
LimitIsExact = (s t : State) (front : List Step) (place : Place) → InOneMap front → run s (Opens ∷ front) ≡ Ok t
    → counts front ≡ most_uses ↔ meet t (Counts place) ≡ Err (fault_at code.LimitAccess place)

-- ---- all forms

-- this form was walked, and stands in the result with its locals and accesses
pub record WasWalked (variants : List Variant) (instances : List Instance) (r : Resolving) (k : ℕ)
    (form : Key × Found) : Type 0 where
  pub before : Forms
  pub done : Outcome
  pub walked : walk_of variants instances k form.1 before ≡ Ok done
  -- the forms that were found later
  pub later : Forms
  pub behind : r.found ≡ done.forms ++ later
  pub uses : slice_get r.uses k ≡ Some done.uses
  pub kept : slice_get r.forms k ≡ Some (with_locals form.1 done.locals)

-- Each form of the result, up to the greatest number of forms, was walked without a fault.
abbrev pub EachWalked : Type 0
EachWalked = (variants : List Variant) (mapping : Mapping) (r : Resolving) → resolution variants mapping ≡ Ok r
    → (k : ℕ) (form : Key × Found) → k < most_forms → slice_get r.found k ≡ Some form
    → WasWalked variants mapping.instances r k form

-- There are no more forms than the greatest number of them.
abbrev pub FewForms : Type 0
FewForms = (variants : List Variant) (mapping : Mapping) (r : Resolving) → resolution variants mapping ≡ Ok r
    → length r.forms ≤ most_forms

-- Forms are a tree: each but the entry is called from a form before it.
abbrev pub CallersFirst : Type 0
CallersFirst = (variants : List Variant) (mapping : Mapping) (r : Resolving) → resolution variants mapping ≡ Ok r
    → (i : ℕ) (form : Key × Found) (c : Caller) → slice_get r.found i ≡ Some form → form.1.caller ≡ Some c → c.form < i
