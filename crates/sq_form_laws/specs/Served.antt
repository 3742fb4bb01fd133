-- What doesn't occur under a program without a fault and a mapping that was read: a call without an instance, a form
-- without a variant, parameters whose extents don't fit.
use Rattle.std.specs.Prelude.{◌≡◌, ◌⊎◌, ℕ, suc, true, List, length, Some, Ok, slice_get}
use Rattle.sq_ast.specs.declared.stmt.Call.{Call}
use Rattle.sq_ast.specs.declared.program.Program.{Program}
use Rattle.sq_ast.specs.declared.program.Variant.{Variant}
use Rattle.sq_forms.specs.Machfile.declared.level.Level.{Level}
use Rattle.sq_forms.specs.Mappings.declared.mapping.Instance.{Instance}
use Rattle.sq_forms.specs.Mappings.declared.mapping.Mapping.{Mapping}
use Rattle.sq_forms.specs.Mappings.Sound.{Sound}
use Rattle.sq_forms.specs.Types.Sound.{is_sound}
use Rattle.sq_forms.specs.declared.form.Found.{Found}
use Rattle.sq_forms.specs.Steps.{Key}
use Rattle.sq_forms.specs.Tables.{variant_of}
use Rattle.sq_forms.specs.Worlds.{Callee, callee_of}
use Rattle.sq_forms.specs.Decls.{Scope, empty_scope, params_from}
use Rattle.sq_forms.specs.Resolving.{Resolving, resolution, frame_in}
use Rattle.sq_form_laws.specs.Reached.{Ran, body_calls}

-- the instance that serves a call: of the task that is called, at the caller's level or the next, and with a variant
pub record IsServed (program : Program) (mapping : Mapping) (caller : Instance) (c : Call)
    (callee : Callee) : Type 0 where
  pub instance : Instance
  pub there : slice_get mapping.instances callee.instance ≡ Some instance
  pub task : instance.task ≡ c.task
  pub level : callee.level ≡ instance.level
  pub near : (instance.level ≡ caller.level) ⊎ (instance.level ≡ suc caller.level)
  pub variant : Variant
  pub runs : variant_of program.tasks instance.task instance.kind ≡ Some variant
  pub params : callee.params ≡ variant.params

-- Each call in the text of an instance's variant is served.
abbrev pub CallsAreServed : Type 0
CallsAreServed = (program : Program) (levels : List Level) (mapping : Mapping) → Sound program levels mapping
    → (number : ℕ) (x : Instance) (v : Variant) → slice_get mapping.instances number ≡ Some x
    → variant_of program.tasks x.task x.kind ≡ Some v
    → (i : ℕ) (c : Call) → slice_get (body_calls v.body) i ≡ Some c → (k : ℕ) (f : Found)
    → (callee : Callee) × (callee_of (frame_in program.tasks mapping.instances x k f) c.task ≡ Some callee)
    × IsServed program mapping x c callee

-- a form has an instance and a variant, and one list of extents for each parameter, which fit
pub record FormFits (program : Program) (mapping : Mapping) (f : Found) : Type 0 where
  pub instance : Instance
  pub there : slice_get mapping.instances f.instance ≡ Some instance
  pub variant : Variant
  pub runs : variant_of program.tasks instance.task instance.kind ≡ Some variant
  pub many : length f.extents ≡ length variant.params
  pub begun : Scope
  pub binds : params_from empty_scope variant.params 0 f.extents ≡ Some begun

-- Each form of the answer fits.
abbrev pub FormsFit : Type 0
FormsFit = (program : Program) (levels : List Level) (mapping : Mapping) → is_sound program ≡ true
    → Sound program levels mapping
    → (r : Resolving) → resolution program.tasks mapping ≡ Ok r → (k : ℕ) (form : Key × Found)
    → slice_get r.found k ≡ Some form → FormFits program mapping form.1

-- and so it ran
pub record FormRuns (program : Program) (mapping : Mapping) (r : Resolving) (k : ℕ) (f : Found) : Type 0 where
  pub fits : FormFits program mapping f
  pub ran : Ran program.tasks mapping.instances r k f fits.instance fits.variant fits.begun

-- Each form of the answer runs: none is left out.
abbrev pub FormsRun : Type 0
FormsRun = (program : Program) (levels : List Level) (mapping : Mapping) → is_sound program ≡ true
    → Sound program levels mapping
    → (r : Resolving) → resolution program.tasks mapping ≡ Ok r → (k : ℕ) (form : Key × Found)
    → slice_get r.found k ≡ Some form
    → FormRuns program mapping r k form.1
