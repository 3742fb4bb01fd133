-- The work of a program under its mapping: the same statements with the same numbers as in the walk of forms.
use Rattle.std.specs.Prelude.{ℕ, zero, suc, ◌+◌, ◌==◌, false, List, [], ◌∷◌, ◌++◌, map, length, Option, Some, None, Ok, Err, slice_get}
use Rattle.sq_ast.specs.Num.declared.Elem.{Elem}
use Rattle.sq_text.specs.declared.place.Place.{Place}
use Rattle.sq_text.specs.declared.place.Span.{Span}
use Rattle.sq_ast.specs.declared.stmt.Call.{Call as CallStmt}
use Rattle.sq_ast.specs.declared.stmt.Stmt.{Stmt}
use Rattle.sq_ast.specs.declared.stmt.Stmt.TheOpen.{Stmt-F}
use Rattle.sq_ast.specs.declared.stmt.Stmt.TheFolds.{fold-Stmt}
use Rattle.sq_ast.specs.declared.program.Body.{Body}
use Rattle.sq_ast.specs.declared.program.Body.TheVariants as body
use Rattle.sq_ast.specs.declared.program.Param.{Param}
use Rattle.sq_ast.specs.declared.program.Program.{Program}
use Rattle.sq_ast.specs.declared.program.Variant.{Variant}
use Rattle.sq_form_laws.specs.Mappings.declared.mapping.Instance.{Instance}
use Rattle.sq_form_laws.specs.Mappings.declared.mapping.Mapping.{Mapping}
use Rattle.sq_form_laws.specs.Blocks.Names.{Numbers}
use Rattle.sq_work.specs.Leaf.declared.shape.Shape.{Shape}
use Rattle.sq_work.specs.Leaf.Source.{Arrays}
use Rattle.sq_work.specs.Leaf.Leaf.{leaf_value}
use Rattle.sq_form_laws.specs.Blocks.declared.argument.Argument.{Argument}
use Rattle.sq_form_laws.specs.Forms.declared.form.Found.{Found}
use Rattle.sq_form_laws.specs.Forms.declared.form.LocalArray.{LocalArray}
use Rattle.sq_spec.specs.declared.statement.LoopKind.{LoopKind}
use Rattle.sq_spec.specs.declared.statement.LoopKind.TheVariants as loop_kind
use Rattle.sq_form_laws.specs.Forms.Faults.{Value, value_or}
use Rattle.sq_form_laws.specs.Forms.Steps.{Forms, Called, Key, key_number}
use Rattle.sq_form_laws.specs.Forms.Tables.{variant_of}
use Rattle.sq_form_laws.specs.Forms.Args.{Names, arguments}
use Rattle.sq_form_laws.specs.Forms.Worlds.{Frame, Callee, callee_of}
use Rattle.sq_form_laws.specs.Forms.Calls.{CallSite, call_of}
use Rattle.sq_form_laws.specs.Forms.Stmts.{bounds, times_of, in_iteration, within, after_calls}
use Rattle.sq_form_laws.specs.Forms.Decls.{Scope, empty_scope, params_from, all_declared}
use Rattle.sq_form_laws.specs.Forms.Resolving.{Resolving, frame_in, start, resolution, entry_params}
use Rattle.sq_spec.specs.Statements.{number_or, loop_kind_of, elems_of}
use Rattle.sq_work.specs.Work.{Work, Nothing, Then, Each, AtOnce, Gathers, Call, Leaf}
use Rattle.sq_work.specs.Meaning.{Outcome, meaning}

-- the work of a part of a form's statements
abbrev pub Working : Type 0
Working = Frame → Names → CallSite → Numbers → Work

-- how many calls stand in it, and its work
pub record Share : Type 0 where
  pub calls : ℕ
  pub work : Working

abbrev pub calls_of : List Share → ℕ
calls_of [] = 0
calls_of (p ∷ ps) = p.calls + calls_of ps

abbrev pub all_of : List Share → Working
all_of [] frame names site numbers = Nothing
all_of (p ∷ ps) frame names site numbers =
    Then (p.work frame names site numbers) (all_of ps frame names (after_calls site p.calls) numbers)

-- ---- statements

abbrev pub map_work : LoopKind → Place → ℕ → (ℕ → Work) → Work
map_work loop_kind.Sequential place count work = Each count work
map_work loop_kind.Parallel place count work = AtOnce place count work
map_work (loop_kind.Reduction r) place count work = Gathers r place count work

-- forms: all that were found; callee: the work of a form, by its number and by what is known of it; elems: the element
-- types of the form's arrays
module _ (forms : Forms) (callee : ℕ → Found → Work) (elems : List Elem) where
  abbrev pub reached_work : Frame → Callee → Called → List Argument → Work
  reached_work frame c reached xs =
      let number = number_or (key_number forms reached.key) in
      Call number (c.level == suc frame.level) xs (callee number reached.form)

  abbrev pub call_work : Frame → Names → CallSite → Numbers → CallStmt → Option Callee → Work
  call_work frame names site numbers c None = Nothing
  call_work frame names site numbers c (Some its) =
      let xs = arguments names numbers site.reduced its.params 0 c.args in
      reached_work frame its (call_of frame its site c xs) xs

  abbrev pub stmt_step : Stmt-F Share → Share
  stmt_step (Stmt-F.Call c) = record {
    calls = 1;
    work = λ frame names site numbers. call_work frame names site numbers c (callee_of frame c.task);
  }
  stmt_step (Stmt-F.Map place kind ranges parts) = record {
    calls = calls_of parts;
    work = λ frame names site numbers.
        let ns = bounds ranges numbers names.lists in
        map_work (loop_kind_of elems names kind) place (times_of ns) (λ t.
        all_of parts frame names (within site place kind t) (in_iteration ranges (value_or [] ns) t numbers));
  }

  abbrev pub stmts_work : List Stmt → Working
  stmts_work list = all_of (map (fold-Stmt Share stmt_step) list)

-- ---- forms

-- the shapes of the parameters from the i-th on
abbrev pub extents_at : Option (List ℕ) → List ℕ
extents_at None = []
extents_at (Some extents) = extents

abbrev pub param_shapes : List Param → ℕ → List (List ℕ) → List Shape
param_shapes [] i extents = []
param_shapes (p ∷ ps) i extents =
    record { elem = p.elem; extents = extents_at (slice_get extents i) } ∷ param_shapes ps (i + 1) extents

abbrev pub local_shapes : List LocalArray → List Shape
local_shapes locals = map (λ l. record { elem = l.elem; extents = l.extents }) locals

abbrev pub shapes_of : Variant → Found → Scope → List Shape
shapes_of v f scope = param_shapes v.params 0 f.extents ++ local_shapes scope.locals

module _ (forms : Forms) (callee : ℕ → Found → Work) where
  abbrev pub body_work : Variant → Body → Found → Frame → Scope → Work
  body_work v (body.Inner list) f frame scope =
      stmts_work forms callee (elems_of v scope) list frame scope.names start scope.numbers
  body_work v (body.Leaf list) f frame scope =
      Leaf (leaf_value (record { variant = v; numbers = scope.numbers }) (shapes_of v f scope))

  abbrev pub declared_work : Frame → Variant → Found → Value Scope → Work
  declared_work frame v f (Ok scope) = body_work v v.body f frame scope
  declared_work frame v f (Err fault) = Nothing

  abbrev pub scope_work : Frame → Instance → Variant → Found → Option Scope → Work
  scope_work frame x v f None = Nothing
  scope_work frame x v f (Some scope) = declared_work frame v f (all_declared x.tunings scope v.decls)

  abbrev pub variant_work : List Variant → List Instance → Instance → ℕ → Found → Option Variant → Work
  variant_work variants instances x k f None = Nothing
  variant_work variants instances x k f (Some v) =
      scope_work (frame_in variants instances x k f) x v f (params_from empty_scope v.params 0 f.extents)

  abbrev pub instance_work : List Variant → List Instance → ℕ → Found → Option Instance → Work
  instance_work variants instances k f None = Nothing
  instance_work variants instances k f (Some x) =
      variant_work variants instances x k f (variant_of variants x.task x.kind)

-- the work of the form with this number, round which no more than n forms are called within one another
abbrev pub form_work : List Variant → List Instance → Forms → ℕ → ℕ → Found → Work
form_work variants instances forms zero k f = Nothing
form_work variants instances forms (suc n) k f =
    instance_work forms (form_work variants instances forms n) variants instances k f (slice_get instances f.instance)

-- ---- the entry

-- all of an array
abbrev pub whole : List ℕ → List Span
whole extents = map (λ n. record { lo = 0; hi = n }) extents

-- the entry is called with whole arrays, one for each parameter from the i-th on
abbrev pub entry_arguments : List Param → ℕ → List (List ℕ) → List Argument
entry_arguments [] i extents = []
entry_arguments (p ∷ ps) i extents =
    record { mode = p.mode; is_reduced = false; array = i; rect = whole (extents_at (slice_get extents i)) }
    ∷ entry_arguments ps (i + 1) extents

-- the entry is the first form; a call leads to a form behind its caller's, so there are no longer chains than there are
-- forms
abbrev pub entry_work : List Variant → Mapping → Forms → Option (Key × Found) → Work
entry_work variants mapping forms None = Nothing
entry_work variants mapping forms (Some entry) =
    Call 0 false (entry_arguments (entry_params variants (slice_get mapping.instances mapping.entry)) 0 entry.1.extents)
    (form_work variants mapping.instances forms (length forms) 0 entry.1)

abbrev pub work_of : List Variant → Mapping → Forms → Work
work_of variants mapping forms = entry_work variants mapping forms (slice_get forms 0)

abbrev pub found_in : Value Resolving → Forms
found_in (Ok r) = r.found
found_in (Err fault) = []

-- The meaning of a program: from its input arrays, by the numbers of the parameters, the arrays after it, in which the
-- `out` and `inout` ones are its outputs; or the first trap with its path.
abbrev pub flat : Program → Mapping → Arrays → Outcome
flat program mapping = meaning (work_of program.tasks mapping (found_in (resolution program.tasks mapping)))
