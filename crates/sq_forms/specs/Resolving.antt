-- The forms of a program under its mapping: forms are walked in the order in which they are found.
use Rattle.std.specs.Prelude.{◌≡◌, ℕ, zero, suc, ◌+◌, ℤ, pos, List, [], ◌∷◌, ◌++◌, map, Bool, false, Option, Some, None, Result, Ok, Err, if◌then◌else◌, slice_get}
use Rattle.sq_text.specs.declared.fault.Stop.{Stop}
use Rattle.sq_text.specs.declared.fault.Stop.TheVariants.{Refused, NoMemory}
use Rattle.sq_forms.specs.declared.walk.Walk.{Walk}
use Rattle.sq_text.specs.declared.code.Code.TheVariants as code
use Rattle.sq_ast.specs.declared.program.Extent.{Extent}
use Rattle.sq_ast.specs.declared.program.Extent.TheVariants as extent
use Rattle.sq_ast.specs.declared.program.Param.{Param}
use Rattle.sq_ast.specs.declared.program.Variant.{Variant}
use Rattle.sq_ast.specs.declared.program.Body.{Body}
use Rattle.sq_ast.specs.declared.program.Body.TheVariants as body
use Rattle.sq_mapping.specs.declared.mapping.Instance.{Instance}
use Rattle.sq_mapping.specs.declared.mapping.SizeSet.{SizeSet}
use Rattle.sq_mapping.specs.declared.mapping.Mapping.{Mapping}
use Rattle.sq_text.specs.Names.{Bytes, same_name}
use Rattle.sq_forms.specs.declared.form.Found.{Found}
use Rattle.sq_forms.specs.declared.form.Form.{Form}
use Rattle.sq_forms.specs.declared.form.Use.{Use}
use Rattle.sq_forms.specs.declared.form.LocalArray.{LocalArray}
use Rattle.sq_forms.specs.declared.forms.Resolving.{Resolving as CodeResolving}
use Rattle.sq_forms.specs.Faults.{Value, fault_named, and_then}
use Rattle.sq_forms.specs.Steps.{Step, State, Forms, Key, run, most_forms}
use Rattle.sq_forms.specs.Tables.{variant_of}
use Rattle.sq_forms.specs.Worlds.{Frame}
use Rattle.sq_forms.specs.Calls.{CallSite}
use Rattle.sq_forms.specs.Stmts.{stmts_steps}
use Rattle.sq_forms.specs.Decls.{Scope, empty_scope, params_from, all_declared, dims_of}

-- ---- what is met in a form

abbrev pub frame_in : List Variant → List Instance → Instance → ℕ → Found → Frame
frame_in variants instances x k f =
    record {
      variants = variants;
      instances = instances;
      routes = x.routes;
      form = k;
      level = x.level;
      maps =
          f.maps;
      depth = f.depth;
    }

abbrev pub start : CallSite
start = record { call = 0; outer = None; reduced = None; iterations = [] }

-- a leaf variant calls nothing
abbrev pub body_steps : Body → Frame → Scope → List Step
body_steps (body.Inner list) frame scope = stmts_steps list frame scope.names start scope.numbers []
body_steps (body.Leaf list) frame scope = []

-- what is left of a walk: the forms so far, and the form's locals and accesses
pub record Outcome : Type 0 where
  pub forms : Forms
  pub locals : List LocalArray
  pub uses : List Use

abbrev pub outcome_of : Scope → State → Outcome
outcome_of scope s = record { forms = s.forms; locals = scope.locals; uses = s.uses }

-- the declarations, then the statements
abbrev pub walked_at : Frame → Instance → Variant → Forms → Scope → Value Outcome
walked_at frame x v forms scope =
    and_then (all_declared x.tunings scope v.decls)
    (λ s. and_then (run (record { left = 0; forms = forms; uses = [] }) (body_steps v.body frame s))
    (λ t. Ok (outcome_of s t)))

abbrev pub no_walk : Forms → Outcome
no_walk forms = record { forms = forms; locals = []; uses = [] }

abbrev pub walked_with : List Variant → List Instance → Instance → Variant → ℕ → Found → Forms → Option Scope
    → Value Outcome
walked_with variants instances x v k f forms None = Ok (no_walk forms)
walked_with variants instances x v k f forms (Some scope) =
    walked_at (frame_in variants instances x k f) x v forms scope

abbrev pub walked_by : List Variant → List Instance → Instance → ℕ → Found → Forms → Option Variant → Value Outcome
walked_by variants instances x k f forms None = Ok (no_walk forms)
walked_by variants instances x k f forms (Some v) =
    walked_with variants instances x v k f forms (params_from empty_scope v.params 0 f.extents)

abbrev pub walked_in : List Variant → List Instance → ℕ → Found → Forms → Option Instance → Value Outcome
walked_in variants instances k f forms None = Ok (no_walk forms)
walked_in variants instances k f forms (Some x) =
    walked_by variants instances x k f forms (variant_of variants x.task x.kind)

-- the walk of the form with this number, where so many forms were found
abbrev pub walk_of : List Variant → List Instance → ℕ → Found → Forms → Value Outcome
walk_of variants instances k f forms = walked_in variants instances k f forms (slice_get instances f.instance)

-- ---- all forms

-- the forms that are found so far, and those that were walked, with their accesses
pub record Resolving : Type 0 where
  pub found : Forms
  pub forms : List Form
  pub uses : List (List Use)

abbrev pub with_locals : Found → List LocalArray → Form
with_locals f locals = record {
  instance = f.instance;
  level = f.level;
  extents = f.extents;
  in_place =
      f.in_place;
  caller = f.caller;
  locals = locals;
}

abbrev pub more : Resolving → Found → Outcome → Resolving
more r f o = record { found = o.forms; forms = r.forms ++ with_locals f o.locals ∷ []; uses = r.uses ++ o.uses ∷ [] }

abbrev pub next_walked : List Variant → List Instance → ℕ → Resolving → Option (Key × Found) → Value Resolving
next_walked variants instances k r None = Ok r
next_walked variants instances k r (Some form) =
    and_then (walk_of variants instances k form.1 r.found) (λ o. Ok (more r form.1 o))

-- the form with this number, where there is one
abbrev pub walk_next : List Variant → List Instance → ℕ → Resolving → Value Resolving
walk_next variants instances k r = next_walked variants instances k r (slice_get r.found k)

-- n numbers of forms, from the k-th on
abbrev pub walk_from : List Variant → List Instance → ℕ → ℕ → Resolving → Value Resolving
walk_from variants instances zero k r = Ok r
walk_from variants instances (suc n) k r =
    and_then (walk_next variants instances k r) (λ s. walk_from variants instances n (k + 1) s)

-- ---- the entry

abbrev pub size_of : List SizeSet → Bytes → ℤ
size_of [] name = pos 0
size_of (s ∷ rest) name = if same_name s.name name then s.value else size_of rest name

abbrev pub extent_of : List SizeSet → Extent → ℤ
extent_of sizes (extent.Size place name) = size_of sizes name
extent_of sizes (extent.Fixed place n) = n

abbrev pub dims_or_fault : Param → Option (List ℕ) → Value (List ℕ)
dims_or_fault p None = Err (fault_named code.LimitArray p.place p.name)
dims_or_fault p (Some dims) = Ok dims

abbrev pub param_dims : List SizeSet → Param → Value (List ℕ)
param_dims sizes p = dims_or_fault p (dims_of (map (extent_of sizes) p.extents))

abbrev pub before : {A : Type 0} → A → Value (List A) → Value (List A)
before x xs = and_then xs (λ ys. Ok (x ∷ ys))

-- the entry's parameters are examined before all else, in order
abbrev pub entry_extents : List SizeSet → List Param → Value (List (List ℕ))
entry_extents sizes [] = Ok []
entry_extents sizes (p ∷ ps) = and_then (param_dims sizes p) (λ dims. before dims (entry_extents sizes ps))

-- no argument of the entry is in place
abbrev pub none_in_place : List (List ℕ) → List Bool
none_in_place extents = map (λ e. false) extents

abbrev pub entry_form : ℕ → List (List ℕ) → Found
entry_form instance extents = record {
  instance = instance;
  level = 0;
  extents = extents;
  in_place =
      none_in_place extents;
  caller = None;
  maps = 0;
  depth = 1;
}

-- the key of the entry is that of no call
abbrev pub with_entry : ℕ → List (List ℕ) → Resolving
with_entry instance extents = record { found = ([], entry_form instance extents) ∷ []; forms = []; uses = [] }

abbrev pub resolved_with : List Variant → Mapping → List Param → Value Resolving
resolved_with variants mapping params =
    and_then (entry_extents mapping.sizes params)
    (λ extents. walk_from variants mapping.instances most_forms 0 (with_entry mapping.entry extents))

abbrev pub params_of : Option Variant → List Param
params_of None = []
params_of (Some v) = v.params

abbrev pub entry_params : List Variant → Option Instance → List Param
entry_params variants None = []
entry_params variants (Some x) = params_of (variant_of variants x.task x.kind)

-- the forms with their locals and accesses, or the first fault that the walk meets
abbrev pub resolution : List Variant → Mapping → Value Resolving
resolution variants mapping = resolved_with variants mapping
    (entry_params variants (slice_get mapping.instances mapping.entry))

-- ---- what the code does

-- a form was walked, and these are its locals
abbrev pub Ends : Result (List LocalArray) Stop → Value Outcome → Walk → Type 0
Ends (Ok locals) form w = form ≡ Ok (record { forms = w.forms.entries; locals = locals; uses = w.uses })
Ends (Err (Refused f)) form w = form ≡ Err f
Ends (Err NoMemory) form w = Unit {0}

abbrev pub resolving_of : CodeResolving → Resolving
resolving_of r = record { found = r.walk.forms.entries; forms = r.forms; uses = r.uses }

abbrev pub Resolves : Result CodeResolving Stop → Value Resolving → Type 0
Resolves (Ok r) value = value ≡ Ok (resolving_of r)
Resolves (Err (Refused f)) value = value ≡ Err f
Resolves (Err NoMemory) value = Unit {0}
