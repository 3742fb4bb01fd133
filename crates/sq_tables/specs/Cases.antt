-- The arms of a call, and the tables of its arguments.
use Rattle.std.specs.Prelude.{◌≡◌, ℕ, suc, max, ◌==◌, ℤ, nat_eq, List, [], ◌∷◌, length, slice_get, Option, Some, None}
use Rattle.std.specs.Prelude.{if◌then◌else◌}
use Rattle.std.specs.List.{list_any}
use Rattle.indexmap.specs.IndexMap.{get}
use Rattle.sq_term.specs.Ir.declared.term.LeafView.{LeafView}
use Rattle.sq_spec.specs.declared.statement.CallInstance.{CallInstance}
use Rattle.sq_term.specs.Terms.{offsets, is_same_arm, arm_number}
use Rattle.sq_tables.specs.declared.cases.Arms.{Arms}

abbrev pub one_on : Option ℕ → Option ℕ
one_on None = None
one_on (Some i) = Some (suc i)

-- the first row of this form
abbrev pub first_of_form : List CallInstance → (form : ℕ) → Option ℕ
first_of_form [] form = None
first_of_form (q ∷ qs) form = if form == q.form then Some 0 else one_on (first_of_form qs form)

-- the arm of a row, if it has one
abbrev pub find_arm : List CallInstance → CallInstance → Option ℕ
find_arm qs r = if list_any (is_same_arm r) qs then Some (arm_number qs r) else None

-- a table from forms to the first of these rows that has the form
pub record AreFirsts (qs : List CallInstance) (table : ℕ → Option ℕ) : Type 0 where
  pub each : (form : ℕ) → table form ≡ first_of_form qs form

abbrev pub AreIndexed : Arms → Type 0
AreIndexed arms = AreFirsts arms.list (get nat_eq arms.firsts)

-- tables of the arguments of a call, by their positions
pub record AreTables (views : List LeafView) (instances : List CallInstance)
    (tables : List (Option (List ℤ))) : Type 0 where
  pub each : (i : ℕ) (table : Option (List ℤ)) → slice_get tables i ≡ Some table → table ≡ offsets views instances i

-- as many as the row with most arguments has
abbrev pub most_args : List CallInstance → ℕ
most_args [] = 0
most_args (row ∷ rows) = max (length row.args) (most_args rows)
