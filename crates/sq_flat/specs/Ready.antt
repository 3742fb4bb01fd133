-- What is asked of forms before they are evaluated.
use Rattle.std.specs.Prelude.{◌≡◌, ℕ, ◌<◌, ◌^◌, true, List, [], ◌∷◌, ◌++◌, map, length, slice_get, Some}
use Rattle.sq_rect.specs.declared.view.View.{View}
use Rattle.sq_leaf.specs.Line.{are_in_line}
use Rattle.sq_leaf.specs.Views.{shape_of}
use Rattle.sq_spec.specs.declared.statement.CallInstance.{CallInstance}
use Rattle.sq_spec.specs.declared.statement.Statement.{Statement}
use Rattle.sq_spec.specs.declared.statement.Statement.TheOpen.{Statement-F}
use Rattle.sq_spec.specs.declared.statement.Statement.TheFolds.{fold-Statement}
use Rattle.sq_spec.specs.declared.body.Body.{Body}
use Rattle.sq_spec.specs.declared.body.Body.TheVariants as body
use Rattle.sq_flat.specs.declared.form.FormCode.{FormCode}
use Rattle.sq_flat.specs.Memory.{lined, total, AreSmall, ArgsFit}

abbrev pub all_rows : List (List CallInstance) → List CallInstance
all_rows [] = []
all_rows (rows ∷ rest) = rows ++ all_rows rest

abbrev pub rows_step : Statement-F (List CallInstance) → List CallInstance
rows_step (Statement-F.Call lower times) = times
rows_step (Statement-F.Map place kind counts starts parts) = all_rows parts

-- what the calls in a statement reach
abbrev pub rows_of : Statement → List CallInstance
rows_of = fold-Statement (List CallInstance) rows_step

abbrev pub rows_in : List Statement → List CallInstance
rows_in list = all_rows (map rows_of list)

-- the form that is reached is there, and its parameters fit the arguments
pub record RowFits (forms : List FormCode) (vs : List View) (r : CallInstance) : Type 0 where
  pub form : FormCode
  pub is : slice_get forms r.form ≡ Some form
  pub args : ArgsFit vs form.views r.args
  pub few : length r.args < 2 ^ 32

abbrev pub RowsFit : List FormCode → List View → List CallInstance → Type 0
RowsFit forms vs [] = Unit {0}
RowsFit forms vs (r ∷ rows) = RowFits forms vs r × RowsFit forms vs rows

abbrev pub AreReady : List FormCode → List View → List Statement → Type 0
AreReady forms vs list = RowsFit forms vs (rows_in list)

-- its arrays stand one behind the other
pub record IsLine (vs : List View) : Type 0 where
  pub lined : vs ≡ lined 0 (map shape_of vs)
  pub small : AreSmall vs

abbrev pub IsBody : List FormCode → List View → Body → Type 0
IsBody forms vs (body.Leaf code) = are_in_line 0 (total (map shape_of vs)) vs ≡ true
IsBody forms vs (body.Inner list) = AreReady forms vs list

pub record IsForm (forms : List FormCode) (f : FormCode) : Type 0 where
  pub line : IsLine f.views
  pub body : IsBody forms f.views f.body

pub record AreForms (forms : List FormCode) : Type 0 where
  pub each : (k : ℕ) (f : FormCode) → slice_get forms k ≡ Some f → IsForm forms f
