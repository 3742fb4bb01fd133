-- At which nodes of a machine forms run, and how many bytes a node needs. A form's end is what its buffers take, with
-- those of its caller where that runs at the same level; a node needs the greatest end of the forms that run at it.
--
-- A root h has two children, a and b. Form 0 at h has two arrays of ten ints: its end is 80. A `mappar` over pieces of
-- four ints makes a lower call for each, on one piece of both arrays. Pieces 0 and 1 are whole, so their calls reach
-- form 1, whose end is 16 + 16; piece 2 is ragged, so its call reaches form 2, whose end is 8 + 8.
-- - Cyclic, iterations 0 and 2 stand at a, and 1 at b: form 1 runs at a and b, form 2 at a. So h needs 80, a needs 32
--   and b needs 32.
-- - Blocked, iterations 0 and 1 stand at a, and 2 at b: form 1 runs at a, form 2 at b. So h needs 80, a needs 32 and
--   b needs 16.
-- - As a `mapseq` it isn't spread, and every call runs at child 0: forms 1 and 2 run at a. So h needs 80, a needs 32
--   and b needs 0.
-- A call of form 0 at its own level, whose first argument of ten ints is in place and whose second isn't, reaches a
-- form that runs at h too, and ends at 80 + 40: with it h needs 120.
use Rattle.std.specs.Prelude.{◌≡◌, ◌⊎◌, ℕ, suc, ◌+◌, ◌*◌, ◌/◌, ◌≤◌, Bool, true, false, ◌||◌, ◌==◌, List, [], ◌∷◌, ◌++◌, map, Option, Some, None, is_none, Ok, Err, if◌then◌else◌, slice_get}
use Rattle.std.specs.List.{flat_map, range_with_len}
use Rattle.sq_num.specs.declared.Elem.{Elem}
use Rattle.sq_num.specs.Elements.{width}
use Rattle.sq_blocks.specs.Rect.Extents.{product}
use Rattle.sq_text.specs.declared.spread.SpreadRule.{SpreadRule}
use Rattle.sq_text.specs.Spreading.{child_of}
use Rattle.sq_ast.specs.declared.stmt.Call.{Call}
use Rattle.sq_ast.specs.declared.stmt.MapKind.{MapKind}
use Rattle.sq_ast.specs.declared.stmt.MapKind.TheVariants.{Par, Seq, Reduce}
use Rattle.sq_ast.specs.declared.stmt.Stmt.{Stmt}
use Rattle.sq_ast.specs.declared.stmt.Stmt.TheOpen.{Stmt-F}
use Rattle.sq_ast.specs.declared.stmt.Stmt.TheFolds.{fold-Stmt}
use Rattle.sq_ast.specs.declared.program.Param.{Param}
use Rattle.sq_ast.specs.declared.program.Variant.{Variant}
use Rattle.sq_ast.specs.declared.program.Body.{Body}
use Rattle.sq_ast.specs.declared.program.Body.TheVariants as body
use Rattle.sq_ast.specs.declared.program.Program.{Program}
use Rattle.sq_machfile.specs.declared.node.Node.{Node}
use Rattle.sq_machfile.specs.Machines.{Hierarchy, WithinLimits}
use Rattle.sq_forms.specs.Mappings.Sound.{Sound}
use Rattle.sq_forms.specs.Mappings.declared.mapping.Instance.{Instance}
use Rattle.sq_forms.specs.Mappings.declared.mapping.Mapping.{Mapping}
use Rattle.sq_blocks.specs.Names.{Numbers}
use Rattle.sq_blocks.specs.declared.argument.Argument.{Argument}
use Rattle.sq_forms.specs.declared.form.Form.{Form}
use Rattle.sq_forms.specs.declared.form.Caller.{Caller}
use Rattle.sq_forms.specs.declared.form.Found.{Found}
use Rattle.sq_forms.specs.declared.form.LocalArray.{LocalArray}
use Rattle.sq_forms.specs.Faults.{Value, value_or}
use Rattle.sq_forms.specs.Args.{Names, arguments}
use Rattle.sq_forms.specs.Tables.{variant_of}
use Rattle.sq_forms.specs.Worlds.{Frame, Callee, callee_of}
use Rattle.sq_forms.specs.Calls.{CallSite, extents_of, flags}
use Rattle.sq_forms.specs.Stmts.{after_calls, bounds, times_of, in_iteration, within}
use Rattle.sq_forms.specs.Decls.{Scope, empty_scope, params_from, all_declared}
use Rattle.sq_forms.specs.Resolving.{Resolving, resolution, with_locals, start, params_of}
use Rattle.sq_forms.specs.Steps.{Called}
use Rattle.sq_spec.specs.FormLaws.Reached.{Ran, calls_in, steps_of}
use Rattle.sq_spec.specs.Spreads.{spreads}

-- ---- how many bytes forms take

-- to a multiple of 8
abbrev pub rounded : ℕ → ℕ
rounded n = (n + 7) / 8 * 8

abbrev pub size_of : Elem → List ℕ → ℕ
size_of elem extents = rounded (width elem * product extents)

-- of the parameters that aren't in place
abbrev pub params_size : List Param → List (List ℕ) → List Bool → ℕ
params_size (p ∷ ps) (e ∷ es) (false ∷ flags) = size_of p.elem e + params_size ps es flags
params_size (p ∷ ps) (e ∷ es) (true ∷ flags) = params_size ps es flags
params_size _ _ _ = 0

abbrev pub locals_size : List LocalArray → ℕ
locals_size [] = 0
locals_size (l ∷ locals) = size_of l.elem l.extents + locals_size locals

abbrev pub variant_for : List Variant → Option Instance → Option Variant
variant_for variants None = None
variant_for variants (Some x) = variant_of variants x.task x.kind

-- the parameters of the variant that a form runs
abbrev pub form_params : List Variant → List Instance → Form → List Param
form_params variants instances f = params_of (variant_for variants (slice_get instances f.instance))

abbrev pub own_size : List Variant → List Instance → Form → ℕ
own_size variants instances f =
    params_size (form_params variants instances f) f.extents f.in_place + locals_size f.locals

-- a form, and where its buffers end
abbrev pub Ended : Type 0
Ended = Form × ℕ

-- the end of this form, if it is of this level
abbrev pub end_at : ℕ → Option Ended → ℕ
end_at level None = 0
end_at level (Some e) = if e.0.level == level then e.1 else 0

abbrev pub callers_end : List Ended → ℕ → Option Caller → ℕ
callers_end done level None = 0
callers_end done level (Some c) = end_at level (slice_get done c.form)

-- a form's own bytes, behind its caller's end where that is at the same level
abbrev pub end_of : List Variant → List Instance → List Ended → Form → ℕ
end_of variants instances done f = callers_end done f.level f.caller + own_size variants instances f

-- callers stand before the forms that they call
abbrev pub ends_from : List Variant → List Instance → List Ended → List Form → List Ended
ends_from variants instances done [] = done
ends_from variants instances done (f ∷ fs) =
    ends_from variants instances (done ++ (f, end_of variants instances done f) ∷ []) fs

-- each form with its end
abbrev pub ends : List Variant → List Instance → List Form → List Ended
ends variants instances forms = ends_from variants instances [] forms

-- ---- the calls of a form, as they would run

-- an iteration of a spread map, of so many
pub record Turn : Type 0 where
  pub count : ℕ
  pub t : ℕ

-- A call: its number, the extents of its arguments, which of them are in place, and the iteration of the spread map
-- round it.
pub record Reached : Type 0 where
  pub call : ℕ
  pub extents : List (List ℕ)
  pub in_place : List Bool
  pub turn : Option Turn

-- A part of a form's statements: how many calls stand in it, whether a lower call and whether a same-level call does,
-- and its calls as they would run.
pub record Reaching : Type 0 where
  pub calls : ℕ
  pub lower : Frame → Bool
  pub same : Frame → Bool
  pub reached : Frame → Names → CallSite → Numbers → Option Turn → List Reached

abbrev pub is_lower : Frame → Option Callee → Bool
is_lower frame None = false
is_lower frame (Some callee) = callee.level == suc frame.level

abbrev pub is_same : Frame → Option Callee → Bool
is_same frame None = false
is_same frame (Some callee) = callee.level == frame.level

abbrev pub as_reached : CallSite → Option Turn → Bool → List Argument → Reached
as_reached site turn same xs = record {
  call = site.call;
  extents = extents_of xs;
  in_place = flags same xs;
  turn = turn;
}

abbrev pub reached_by : Frame → Names → CallSite → Numbers → Option Turn → Call → Option Callee → List Reached
reached_by frame names site numbers turn c None = []
reached_by frame names site numbers turn c (Some callee) =
    as_reached site turn (callee.level == frame.level) (arguments names numbers site.reduced callee.params 0 c.args)
    ∷ []

abbrev pub total_calls : List Reaching → ℕ
total_calls [] = 0
total_calls (p ∷ ps) = p.calls + total_calls ps

abbrev pub any_lower : List Reaching → Frame → Bool
any_lower [] frame = false
any_lower (p ∷ ps) frame = p.lower frame || any_lower ps frame

abbrev pub any_same : List Reaching → Frame → Bool
any_same [] frame = false
any_same (p ∷ ps) frame = p.same frame || any_same ps frame

abbrev pub reached_in : List Reaching → Frame → Names → CallSite → Numbers → Option Turn → List Reached
reached_in [] frame names site numbers turn = []
reached_in (p ∷ ps) frame names site numbers turn =
    p.reached frame names site numbers turn ++ reached_in ps frame names (after_calls site p.calls) numbers turn

abbrev pub is_beside : MapKind → Bool
is_beside Par = true
is_beside Seq = false
is_beside (Reduce op array) = true

-- where an iteration of a spread map stands round it or not
abbrev pub is_spread : MapKind → Option Turn → Bool → Bool → Bool
is_spread kind turn lower same = spreads (is_beside kind) (is_none turn) lower same

abbrev pub turn_in : Bool → Option Turn → ℕ → ℕ → Option Turn
turn_in true turn count t = Some (record { count = count; t = t })
turn_in false turn count t = turn

abbrev pub reaching_step : Stmt-F Reaching → Reaching
reaching_step (Stmt-F.Call c) = record {
  calls = 1;
  lower = λ frame. is_lower frame (callee_of frame c.task);
  same = λ frame. is_same frame (callee_of frame c.task);
  reached = λ frame names site numbers turn. reached_by frame names site numbers turn c (callee_of frame c.task);
}
reaching_step (Stmt-F.Map place kind ranges parts) = record {
  calls = total_calls parts;
  lower = any_lower parts;
  same = any_same parts;
  reached = λ frame names site numbers turn.
      let ns = bounds ranges numbers names.lists in
      let spread = is_spread kind turn (any_lower parts frame) (any_same parts frame) in
      let inside : ℕ → Numbers = λ t. in_iteration ranges (value_or [] ns) t numbers in
      flat_map (λ t. reached_in parts frame names (within site place kind t) (inside t)
      (turn_in spread turn (times_of ns) t)) (range_with_len 0 (times_of ns));
}

abbrev pub reaching : Stmt → Reaching
reaching = fold-Stmt Reaching reaching_step

-- the calls of a form whose names are known
abbrev pub reached_by_body : Body → Frame → Scope → List Reached
reached_by_body (body.Inner list) frame scope =
    reached_in (map reaching list) frame scope.names start scope.numbers None
reached_by_body (body.Leaf list) frame scope = []

abbrev pub reached_where : Body → Frame → Value Scope → List Reached
reached_where b frame (Ok scope) = reached_by_body b frame scope
reached_where b frame (Err f) = []

abbrev pub reached_with : Frame → Instance → Variant → Option Scope → List Reached
reached_with frame x v None = []
reached_with frame x v (Some scope) = reached_where v.body frame (all_declared x.tunings scope v.decls)

-- the maps and forms round a form don't matter here
abbrev pub frame_at : List Variant → List Instance → Instance → ℕ → Frame
frame_at variants instances x k =
    record {
      variants = variants;
      instances = instances;
      routes = x.routes;
      form = k;
      level = x.level;
      maps = 0;
      depth = 0;
    }

abbrev pub reached_of : List Variant → List Instance → ℕ → Form → Option Instance → Option Variant → List Reached
reached_of variants instances k f (Some x) (Some v) =
    reached_with (frame_at variants instances x k) x v (params_from empty_scope v.params 0 f.extents)
reached_of variants instances k f _ _ = []

-- the calls of the form with this number, in the order in which they would run
abbrev pub reached_from : List Variant → List Instance → ℕ → Form → List Reached
reached_from variants instances k f =
    reached_of variants instances k f (slice_get instances f.instance)
    (variant_for variants (slice_get instances f.instance))

-- ---- the nodes at which forms run

-- this call of the caller has this callee
pub record IsCall (variants : List Variant) (instances : List Instance) (forms : List Form) (caller callee : ℕ)
    (from to : Form) (r : Reached) : Type 0 where
  pub caller_there : slice_get forms caller ≡ Some from
  pub callee_there : slice_get forms callee ≡ Some to
  pub index : ℕ
  pub among : slice_get (reached_from variants instances caller from) index ≡ Some r
  pub from_call : to.caller ≡ Some (record { form = caller; call = r.call })
  pub extents : to.extents ≡ r.extents
  pub in_place : to.in_place ≡ r.in_place

-- the child of a node at which a lower call runs: that of its iteration, and child 0 outside of spread maps
abbrev pub child_for : SpreadRule → Node → Option Turn → ℕ
child_for rule n None = 0
child_for rule n (Some turn) = child_of rule turn.count n.children turn.t

-- a child of a node, at which a call of this form's instance runs
pub record StandsAt (instances : List Instance) (nodes : List Node) (from : Form) (r : Reached)
    (node child : ℕ) : Type 0 where
  pub instance : Instance
  pub runs : slice_get instances from.instance ≡ Some instance
  pub parent : Node
  pub there : slice_get nodes node ≡ Some parent
  pub is : child ≡ parent.first_child + child_for instance.spread parent r.turn

-- the form runs at the node
pub data RunsAt (variants : List Variant) (instances : List Instance) (nodes : List Node) (forms : List Form) : ℕ → ℕ
    → Type 0 where
  -- the entry at the root
  entry : RunsAt variants instances nodes forms 0 0
  -- what is called at the same level, at the caller's nodes
  beside : {caller callee node : ℕ} → (from to : Form) → (r : Reached)
      → IsCall variants instances forms caller callee from to r → to.level ≡ from.level
      → RunsAt variants instances nodes forms caller node → RunsAt variants instances nodes forms callee node
  -- what is called one level lower, at a child of each of the caller's nodes
  below : {caller callee node child : ℕ} → (from to : Form) → (r : Reached)
      → IsCall variants instances forms caller callee from to r
      → to.level ≡ suc from.level
      → RunsAt variants instances nodes forms caller node → StandsAt instances nodes from r node child
      → RunsAt variants instances nodes forms callee child

-- ---- what nodes need

-- a form that runs at the node ends there
pub record EndsAt (variants : List Variant) (instances : List Instance) (nodes : List Node) (forms : List Form)
    (node n : ℕ) : Type 0 where
  pub form : ℕ
  pub runs : RunsAt variants instances nodes forms form node
  pub ended : Ended
  pub there : slice_get (ends variants instances forms) form ≡ Some ended
  pub is : ended.1 ≡ n

-- what the node needs: the greatest end of a form that runs at it, and 0 where none does
pub record Needs (variants : List Variant) (instances : List Instance) (nodes : List Node) (forms : List Form)
    (node n : ℕ) : Type 0 where
  pub greatest : (m : ℕ) → EndsAt variants instances nodes forms node m → m ≤ n
  pub is : (n ≡ 0) ⊎ EndsAt variants instances nodes forms node n

-- ---- what follows

-- a node needs one number of bytes
abbrev pub NeedIsOne : Type 0
NeedIsOne = (variants : List Variant) (instances : List Instance) (nodes : List Node) (forms : List Form) (node m n : ℕ)
    → Needs variants instances nodes forms node m
    → Needs variants instances nodes forms node n → m ≡ n

-- and none where no form runs
abbrev pub NoFormNoNeed : Type 0
NoFormNoNeed = (variants : List Variant) (instances : List Instance) (nodes : List Node) (forms : List Form)
    (node n : ℕ)
    → Needs variants instances nodes forms node n
    → ((form : ℕ) → RunsAt variants instances nodes forms form node → ⊥) → n ≡ 0

-- the entry runs at the root, and nowhere else
abbrev pub EntryIsAtRoot : Type 0
EntryIsAtRoot = (variants : List Variant) (mapping : Mapping) (r : Resolving) → resolution variants mapping ≡ Ok r
    → (nodes : List Node) (node : ℕ) → RunsAt variants mapping.instances nodes r.forms 0 node → node ≡ 0

-- a node of the form's level
pub record AtLevel (nodes : List Node) (forms : List Form) (k node : ℕ) : Type 0 where
  pub form : Form
  pub form_there : slice_get forms k ≡ Some form
  pub own : Node
  pub own_there : slice_get nodes node ≡ Some own
  pub level : own.level ≡ form.level

-- Where a mapping was read for a machine within the limits, each form runs at nodes that are there, of its own level.
abbrev pub FormsRunAtTheirLevel : Type 0
FormsRunAtTheirLevel = (program : Program) (machine : Hierarchy) (mapping : Mapping) (r : Resolving)
    → WithinLimits machine
    → Sound program machine.levels mapping
    → resolution program.tasks mapping ≡ Ok r → (k node : ℕ)
    → RunsAt program.tasks mapping.instances machine.nodes r.forms k node
    → AtLevel machine.nodes r.forms k node

-- the call is this one: of the form with this number, with these extents and flags
pub record IsSame (k : ℕ) (c : Called) (r : Reached) : Type 0 where
  pub caller : c.form.caller ≡ Some (record { form = k; call = r.call })
  pub extents : c.form.extents ≡ r.extents
  pub in_place : c.form.in_place ≡ r.in_place

-- as many calls, each of which is the one beside it
abbrev pub AreSame : ℕ → List Called → List Reached → Type 0
AreSame k [] [] = Unit {0}
AreSame k [] (r ∷ rs) = ⊥
AreSame k (c ∷ cs) [] = ⊥
AreSame k (c ∷ cs) (r ∷ rs) = IsSame k c r × AreSame k cs rs

-- The calls of a form that ran are those that its walk reached, in order.
abbrev pub CallsAreThoseReached : Type 0
CallsAreThoseReached = (variants : List Variant) (mapping : Mapping) (r : Resolving) (k : ℕ) (f : Found) (x : Instance)
    (v : Variant) (begun : Scope)
    → slice_get mapping.instances f.instance ≡ Some x → variant_of variants x.task x.kind ≡ Some v
    → params_from empty_scope v.params 0 f.extents ≡ Some begun
    → (ran : Ran variants mapping.instances r k f x v begun)
    → AreSame k (calls_in (steps_of variants mapping.instances x v k f ran.scope))
    (reached_from variants mapping.instances k (with_locals f ran.scope.locals))
