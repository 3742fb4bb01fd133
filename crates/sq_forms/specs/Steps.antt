-- What the walk meets in a form, as a list in order; and what comes of it.
use Rattle.std.specs.Prelude.{◌≡◌, ℕ, zero, suc, nat_lt, nat_eq, List, [], ◌∷◌, ◌++◌, map, length, position, Option, Some, None, Result, Ok, Err, is_some, if◌then◌else◌}
use Rattle.std.specs.Cmp.Lexicographic.{pointwise}
use Rattle.sq_text.specs.declared.place.Place.{Place}
use Rattle.sq_text.specs.declared.fault.Fault.{Fault}
use Rattle.sq_text.specs.declared.code.Code.TheVariants as code
use Rattle.sq_text.specs.declared.fault.Stop.{Stop}
use Rattle.sq_text.specs.declared.fault.Stop.TheVariants.{Refused, NoMemory}
use Rattle.sq_forms.specs.declared.form.Found.{Found}
use Rattle.sq_forms.specs.declared.form.Use.{Use}
use Rattle.sq_forms.specs.declared.walk.Walk.{Walk}
use Rattle.sq_forms.specs.Faults.{Value, fault_at, and_then}

abbrev pub Key : Type 0
Key = List ℕ

abbrev pub Forms : Type 0
Forms = List (Key × Found)

-- A call that was examined: the form that it reaches, its accesses where that form has a number, and the fault of one
-- form too many.
pub record Called : Type 0 where
  pub key : Key
  pub form : Found
  pub uses : ℕ → List Use
  pub too_many : Fault

pub data Step : Type 0 where
  -- an outermost map begins: nothing is used yet
  Opens : Step
  -- a use, in the outermost map at this place
  Counts : Place → Step
  -- something is tested
  Tests : Option Fault → Step
  -- a call reaches a form
  Calls : Called → Step

-- How many more uses the outermost map may have, the forms so far, and the accesses of the form that is walked.
pub record State : Type 0 where
  pub left : ℕ
  pub forms : Forms
  pub uses : List Use

-- the uses of one outermost map
unfoldable pub most_uses : ℕ
most_uses = 1048576

unfoldable pub most_forms : ℕ
most_forms = 4096

abbrev pub key_number : Forms → Key → Option ℕ
key_number forms key = position (pointwise nat_eq key) (map (λ e. e.0) forms)

-- the number of a form that is reached: the one that it has, or the next
abbrev pub number_or_next : Option ℕ → ℕ → Option ℕ
number_or_next (Some i) n = Some i
number_or_next None n = if nat_lt n most_forms then Some n else None

abbrev pub number_of : Forms → Key → Option ℕ
number_of forms key = number_or_next (key_number forms key) (length forms)

-- the same form again, or one more
abbrev pub with_form : Forms → Key → Found → Forms
with_form forms key form = if is_some (key_number forms key) then forms else forms ++ (key, form) ∷ []

-- nothing is entered where there would be one too many
abbrev pub forms_after : Forms → Key → Found → Option ℕ → Forms
forms_after forms key form None = forms
forms_after forms key form (Some n) = with_form forms key form

abbrev pub after_entry : State → Called → Option ℕ → Value State
after_entry s c None = Err c.too_many
after_entry s c (Some n) = Ok (record {
  left = s.left;
  forms = with_form s.forms c.key c.form;
  uses =
      s.uses ++ c.uses n;
})

abbrev pub after_count : State → Place → ℕ → Value State
after_count s place zero = Err (fault_at code.LimitAccess place)
after_count s place (suc n) = Ok (record { left = n; forms = s.forms; uses = s.uses })

abbrev pub after_test : State → Option Fault → Value State
after_test s None = Ok s
after_test s (Some f) = Err f

abbrev pub meet : State → Step → Value State
meet s Opens = Ok (record { left = most_uses; forms = s.forms; uses = s.uses })
meet s (Counts place) = after_count s place s.left
meet s (Tests o) = after_test s o
meet s (Calls c) = after_entry s c (number_of s.forms c.key)

-- all steps in order, up to the first that is at fault
abbrev pub run : State → List Step → Value State
run s [] = Ok s
run s (step ∷ rest) = and_then (meet s step) (λ t. run t rest)

-- a part of the walk: its steps, and then others
abbrev pub Part : Type 0
Part = List Step → List Step

-- ---- what the code does

abbrev pub state_of : Walk → State
state_of w = record { left = w.left; forms = w.forms.entries; uses = w.uses }

-- From old to new by the steps of a part; or stopped by the first of them that is at fault; or memory ran out.
abbrev pub Walks : {A : Type 0} → Result A Stop → State → State → Part → Type 0
Walks (Ok a) old new part = (later : List Step) → run old (part later) ≡ run new later
Walks (Err (Refused f)) old new part = (later : List Step) → run old (part later) ≡ Err f
Walks (Err NoMemory) old new part = Unit {0}
