-- The rows of a form's tables are the calls that its walk reached.
use Rattle.std.specs.Prelude.{◌≡◌, ℕ, suc, ◌==◌, Bool, List, [], ◌∷◌, ◌++◌, map, Option, Some, None, Ok, slice_get}
use Rattle.std.specs.Map.{lookup}
use Rattle.sq_num.specs.declared.Elem.{Elem}
use Rattle.sq_text.specs.Names.{Bytes, same_name}
use Rattle.sq_ast.specs.declared.program.Body.TheVariants.{Inner}
use Rattle.sq_ast.specs.declared.program.Variant.{Variant}
use Rattle.sq_ast.specs.declared.stmt.Call.{Call}
use Rattle.sq_ast.specs.declared.stmt.Stmt.{Stmt}
use Rattle.sq_ast.specs.declared.stmt.Stmt.TheOpen.{Stmt-F}
use Rattle.sq_ast.specs.declared.stmt.Stmt.TheFolds.{fold-Stmt}
use Rattle.sq_forms.specs.Mappings.declared.mapping.Instance.{Instance}
use Rattle.sq_forms.specs.Mappings.declared.mapping.Mapping.{Mapping}
use Rattle.sq_spec.specs.Work.declared.reduction.Reduction.{Reduction}
use Rattle.sq_spec.specs.declared.statement.LoopKind.{LoopKind}
use Rattle.sq_spec.specs.declared.statement.LoopKind.TheVariants as loop_kind
use Rattle.sq_spec.specs.declared.statement.CallInstance.{CallInstance}
use Rattle.sq_spec.specs.declared.statement.Statement.{Statement}
use Rattle.sq_spec.specs.declared.statement.Statement.TheOpen.{Statement-F}
use Rattle.sq_spec.specs.declared.statement.Statement.TheFolds.{fold-Statement}
use Rattle.sq_forms.specs.declared.form.Found.{Found}
use Rattle.sq_forms.specs.Args.{Names}
use Rattle.sq_spec.specs.Statements.{tables, elems_of, array_number, elem_or_long}
use Rattle.sq_forms.specs.Decls.{Scope, empty_scope, params_from}
use Rattle.sq_spec.specs.FormLaws.Reached.{Ran, IsReached, calls_in, steps_of, body_calls, form_number}
use Rattle.sq_forms.specs.Resolving.{Resolving, resolution, frame_in}
use Rattle.sq_forms.specs.Steps.{Forms, Called, Key}
use Rattle.sq_forms.specs.Stmts.{reduced_by}
use Rattle.sq_forms.specs.Tables.{variant_of}
use Rattle.sq_forms.specs.Worlds.{Frame}

-- ---- the calls of a form's tables

-- a call's table, and by what the map reduces that stands right round it
pub record Table : Type 0 where
  pub red : Option Reduction
  pub lower : Bool
  pub times : List CallInstance

abbrev pub red_of : LoopKind → Option Reduction
red_of loop_kind.Sequential = None
red_of loop_kind.Parallel = None
red_of (loop_kind.Reduction r) = Some r

abbrev pub all_tables : List (Option Reduction → List Table) → Option Reduction → List Table
all_tables [] red = []
all_tables (f ∷ fs) red = f red ++ all_tables fs red

abbrev pub tables_step : Statement-F (Option Reduction → List Table) → Option Reduction → List Table
tables_step (Statement-F.Call lower times) red = record { red = red; lower = lower; times = times } ∷ []
tables_step (Statement-F.Map place m counts starts parts) red = all_tables parts (red_of m)

abbrev pub tables_of : Statement → Option Reduction → List Table
tables_of = fold-Statement (Option Reduction → List Table) tables_step

abbrev pub tables_in : List Statement → Option Reduction → List Table
tables_in list red = all_tables (map tables_of list) red

-- ---- the calls of a text

-- a call, and the array that the map reduces into that stands right round it
abbrev pub Summed : Type 0
Summed = Option Bytes × Call

abbrev pub all_summed : List (Option Bytes → List Summed) → Option Bytes → List Summed
all_summed [] reduced = []
all_summed (f ∷ fs) reduced = f reduced ++ all_summed fs reduced

abbrev pub summed_step : Stmt-F (Option Bytes → List Summed) → Option Bytes → List Summed
summed_step (Stmt-F.Call c) reduced = (reduced, c) ∷ []
summed_step (Stmt-F.Map place kind ranges parts) reduced = all_summed parts (reduced_by kind)

-- the calls in a statement, in text order
abbrev pub summed : Stmt → Option Bytes → List Summed
summed = fold-Stmt (Option Bytes → List Summed) summed_step

abbrev pub summed_in : List Stmt → Option Bytes → List Summed
summed_in list reduced = all_summed (map summed list) reduced

-- ---- tables and text

-- the table's reduction is into the array of this name
abbrev pub SumIs : List Elem → Names → Option Reduction → Option Bytes → Type 0
SumIs elems names None None = Unit {0}
SumIs elems names None (Some name) = ⊥
SumIs elems names (Some r) None = ⊥
SumIs elems names (Some r) (Some name) =
    (r.array ≡ array_number (lookup (same_name name) names.arrays)) × (r.elem ≡ elem_or_long (slice_get elems r.array))

-- a row: one of the walk's calls, of this text, is reached with the row's arguments, and the row's form is its callee
pub record RowIsReached (frame : Frame) (names : Names) (text : List Call) (calls : List Called) (forms : Forms)
    (reduced : Option Bytes) (c : Call) (lower : Bool)
    (q : CallInstance) : Type 0 where
  pub index : ℕ
  pub call : Called
  pub there : slice_get calls index ≡ Some call
  pub reached : IsReached frame names text call
  pub stmt : reached.call ≡ c
  pub sum : reached.site.reduced ≡ reduced
  pub args : q.args ≡ reached.arguments
  pub form : q.form ≡ form_number forms call.key
  pub level : lower ≡ (reached.callee.level == suc frame.level)

-- a call's table: each of its rows is reached
pub record TableIsReached (frame : Frame) (names : Names) (elems : List Elem) (text : List Call) (calls : List Called)
    (forms : Forms) (t : Table) (p : Summed) : Type 0 where
  pub sum : SumIs elems names t.red p.0
  pub rows : (j : ℕ) (q : CallInstance) → slice_get t.times j ≡ Some q
      → RowIsReached frame names text calls forms p.0 p.1 t.lower q

-- the i-th table is that of the i-th call of the text
pub record OfText (frame : Frame) (names : Names) (elems : List Elem) (text : List Call) (calls : List Called)
    (forms : Forms) (ps : List Summed) (i : ℕ) (t : Table) : Type 0 where
  pub pair : Summed
  pub there : slice_get ps i ≡ Some pair
  pub reached : TableIsReached frame names elems text calls forms t pair

-- Each row of a form's tables is reached.
abbrev pub RowsAreReached : Type 0
RowsAreReached = (variants : List Variant) (mapping : Mapping) (r : Resolving) → resolution variants mapping ≡ Ok r
    → (k : ℕ) (form : Key × Found) (x : Instance) (v : Variant) (begun : Scope) → slice_get r.found k ≡ Some form
    → slice_get mapping.instances form.1.instance ≡ Some x → variant_of variants x.task x.kind ≡ Some v
    → params_from empty_scope v.params 0 form.1.extents ≡ Some begun
    → (ran : Ran variants mapping.instances r k form.1 x v begun)
    → (list : List Stmt) → v.body ≡ Inner list → (i : ℕ) (t : Table)
    → slice_get (tables_in (tables r.found (frame_in variants mapping.instances x k form.1) ran.scope.names
    (elems_of v ran.scope) ran.scope.numbers list) None) i ≡ Some t
    → OfText (frame_in variants mapping.instances x k form.1) ran.scope.names (elems_of v ran.scope) (body_calls v.body)
    (calls_in (steps_of variants mapping.instances x v k form.1 ran.scope)) r.found (summed_in list None) i t
