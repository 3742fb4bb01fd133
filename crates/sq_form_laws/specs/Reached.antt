-- The calls that a form reaches, and its accesses.
use Rattle.std.specs.Prelude.{◌≡◌, ℕ, ◌+◌, ◌<◌, false, List, [], ◌∷◌, ◌++◌, map, length, Option, Some, None, Ok, slice_get}
use Rattle.sq_text.specs.Names.{Bytes}
use Rattle.sq_ast.specs.declared.expr.ArgUse.{ArgUse}
use Rattle.sq_ast.specs.declared.stmt.Call.{Call}
use Rattle.sq_ast.specs.declared.stmt.Stmt.{Stmt}
use Rattle.sq_ast.specs.declared.stmt.Stmt.TheOpen.{Stmt-F}
use Rattle.sq_ast.specs.declared.stmt.Stmt.TheFolds.{fold-Stmt}
use Rattle.sq_ast.specs.declared.program.Body.{Body}
use Rattle.sq_ast.specs.declared.program.Body.TheVariants as body
use Rattle.sq_ast.specs.declared.program.Param.{Param}
use Rattle.sq_ast.specs.declared.program.Variant.{Variant}
use Rattle.sq_forms.specs.Mappings.declared.mapping.Instance.{Instance}
use Rattle.sq_forms.specs.Mappings.declared.mapping.Mapping.{Mapping}
use Rattle.sq_blocks.specs.Names.{Numbers}
use Rattle.sq_blocks.specs.declared.argument.Argument.{Argument}
use Rattle.sq_forms.specs.declared.form.Caller.{Caller}
use Rattle.sq_forms.specs.declared.form.Form.{Form}
use Rattle.sq_forms.specs.declared.form.Found.{Found}
use Rattle.sq_forms.specs.declared.form.LocalArray.{LocalArray}
use Rattle.sq_forms.specs.declared.form.Use.{Use}
use Rattle.sq_forms.specs.Steps.{Step, State, Called, Forms, Key, Opens, Counts, Tests, Calls, run, key_number}
use Rattle.sq_forms.specs.Args.{Names, argument}
use Rattle.sq_forms.specs.Tables.{variant_of}
use Rattle.sq_forms.specs.Worlds.{Frame, Callee, callee_of}
use Rattle.sq_forms.specs.Calls.{CallSite, call_of, shape_from, alias_from, is_too_deep}
use Rattle.sq_forms.specs.Decls.{Scope, empty_scope, params_from, all_declared}
use Rattle.sq_forms.specs.Resolving.{Resolving, resolution, frame_in, body_steps, with_locals}

-- ---- calls of a text

abbrev pub concat : List (List Call) → List Call
concat [] = []
concat (cs ∷ rest) = cs ++ concat rest

abbrev pub text_step : Stmt-F (List Call) → List Call
text_step (Stmt-F.Call c) = c ∷ []
text_step (Stmt-F.Map place kind ranges parts) = concat parts

-- the calls in a statement, in text order
abbrev pub text_calls : Stmt → List Call
text_calls = fold-Stmt (List Call) text_step

abbrev pub body_calls : Body → List Call
body_calls (body.Inner list) = concat (map text_calls list)
body_calls (body.Leaf list) = []

-- ---- calls that are reached

-- the calls among steps, in order
abbrev pub calls_in : List Step → List Called
calls_in [] = []
calls_in (Opens ∷ rest) = calls_in rest
calls_in (Counts place ∷ rest) = calls_in rest
calls_in (Tests o ∷ rest) = calls_in rest
calls_in (Calls c ∷ rest) = c ∷ calls_in rest

-- each argument, from the i-th on, is what its text stands for
abbrev pub AreExamined : Names → Numbers → Option Bytes → List Param → ℕ → List ArgUse → List Argument → Type 0
AreExamined names numbers reduced params i [] [] = Unit {0}
AreExamined names numbers reduced params i [] (x ∷ xs) = ⊥
AreExamined names numbers reduced params i (a ∷ rest) [] = ⊥
AreExamined names numbers reduced params i (a ∷ rest) (x ∷ xs) =
    (argument names numbers reduced (slice_get params i) a ≡ Ok x) × AreExamined names numbers reduced params
    (i + 1) rest xs

-- A call of this text that is reached: an instance serves it, its arguments are there, and none of its tests is at
-- fault.
pub record IsReached (frame : Frame) (names : Names) (text : List Call) (c : Called) : Type 0 where
  pub call : Call
  pub position : ℕ
  pub among : slice_get text position ≡ Some call
  pub site : CallSite
  pub numbers : Numbers
  pub callee : Callee
  pub serves : callee_of frame call.task ≡ Some callee
  pub arguments : List Argument
  pub examined : AreExamined names numbers site.reduced callee.params 0 call.args arguments
  pub shape : shape_from 0 [] callee.params arguments ≡ None
  pub alias : alias_from 0 [] arguments ≡ None
  pub depth : is_too_deep frame site ≡ false
  pub is : c ≡ call_of frame callee site call arguments

-- Where a form's statements go through, each call among their steps is reached so.
abbrev pub CallsAreReached : Type 0
CallsAreReached = (b : Body) (frame : Frame) (scope : Scope) (s t : State) → run s (body_steps b frame scope) ≡ Ok t
    → (i : ℕ) (c : Called) → slice_get (calls_in (body_steps b frame scope)) i ≡ Some c
    → IsReached frame scope.names (body_calls b) c

-- ---- accesses

abbrev pub or_zero : Option ℕ → ℕ
or_zero None = 0
or_zero (Some n) = n

-- the number of the form with this key
abbrev pub form_number : Forms → Key → ℕ
form_number forms key = or_zero (key_number forms key)

-- the accesses of these calls, where forms have their numbers among these
abbrev pub uses_of : Forms → List Called → List Use
uses_of forms [] = []
uses_of forms (c ∷ cs) = c.uses (form_number forms c.key) ++ uses_of forms cs

-- The accesses that steps add are those of their calls, in order, whatever forms are found later.
abbrev pub UsesAreInOrder : Type 0
UsesAreInOrder = (steps : List Step) (s t : State) (more : Forms) → run s steps ≡ Ok t
    → t.uses ≡ s.uses ++ uses_of (t.forms ++ more) (calls_in steps)

-- ---- callees

-- the form is the one that the call reaches: of the same call of the same caller, the same instance and level, with the
-- same flags and extents
pub record IsCallee (c : Called) (form : Key × Found) : Type 0 where
  pub key : form.0 ≡ c.key
  pub caller : form.1.caller ≡ c.form.caller
  pub instance : form.1.instance ≡ c.form.instance
  pub level : form.1.level ≡ c.form.level
  pub in_place : form.1.in_place ≡ c.form.in_place
  pub extents : form.1.extents ≡ c.form.extents

-- the form of this number is the callee
pub record CalleeIs (forms : Forms) (c : Called) (n : ℕ) : Type 0 where
  pub form : Key × Found
  pub there : slice_get forms n ≡ Some form
  pub is : IsCallee c form

-- ---- the answer, form by form

-- As many forms are found as are walked.
abbrev pub AsManyForms : Type 0
AsManyForms = (variants : List Variant) (mapping : Mapping) (r : Resolving) → resolution variants mapping ≡ Ok r
    → length r.found ≡ length r.forms

abbrev pub steps_of : List Variant → List Instance → Instance → Variant → ℕ → Found → Scope → List Step
steps_of variants instances x v k f scope = body_steps v.body (frame_in variants instances x k f) scope

-- A form of the answer whose variant and parameters are known: its declarations went through, its locals are theirs,
-- and its accesses are those of its calls in order. Each call is reached, and the form that its accesses name is its
-- callee.
pub record Ran (variants : List Variant) (instances : List Instance) (r : Resolving) (k : ℕ) (f : Found) (x : Instance)
    (v : Variant) (begun : Scope) : Type 0 where
  pub scope : Scope
  pub declared : all_declared x.tunings begun v.decls ≡ Ok scope
  pub kept : slice_get r.forms k ≡ Some (with_locals f scope.locals)
  pub uses : slice_get r.uses k ≡ Some (uses_of r.found (calls_in (steps_of variants instances x v k f scope)))
  pub reached : (i : ℕ) (c : Called) → slice_get (calls_in (steps_of variants instances x v k f scope)) i ≡ Some c
      → IsReached (frame_in variants instances x k f) scope.names (body_calls v.body) c
  pub callees : (i : ℕ) (c : Called) → slice_get (calls_in (steps_of variants instances x v k f scope)) i ≡ Some c
      → CalleeIs r.found c (form_number r.found c.key)

abbrev pub FormsRan : Type 0
FormsRan = (variants : List Variant) (mapping : Mapping) (r : Resolving) → resolution variants mapping ≡ Ok r
    → (k : ℕ) (form : Key × Found) (x : Instance) (v : Variant) (begun : Scope) → slice_get r.found k ≡ Some form
    → slice_get mapping.instances form.1.instance ≡ Some x
    → variant_of variants x.task x.kind ≡ Some v → params_from empty_scope v.params 0 form.1.extents ≡ Some begun
    → Ran variants mapping.instances r k form.1 x v begun

-- a form of the answer is one that was found, with its locals
pub record IsFound (r : Resolving) (k : ℕ) (f : Form) : Type 0 where
  pub found : Key × Found
  pub there : slice_get r.found k ≡ Some found
  pub locals : List LocalArray
  pub is : f ≡ with_locals found.1 locals

abbrev pub FormsAreFound : Type 0
FormsAreFound = (variants : List Variant) (mapping : Mapping) (r : Resolving) → resolution variants mapping ≡ Ok r
    → (k : ℕ) (f : Form)
    → slice_get r.forms k ≡ Some f → IsFound r k f

-- and so each but the entry is called from a form before it
abbrev pub FormsCallersFirst : Type 0
FormsCallersFirst = (variants : List Variant) (mapping : Mapping) (r : Resolving) → resolution variants mapping ≡ Ok r
    → (i : ℕ) (f : Form) (c : Caller) → slice_get r.forms i ≡ Some f → f.caller ≡ Some c → c.form < i
