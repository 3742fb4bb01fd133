-- Of which element types arguments are, and which arrays they may write, under a program without a fault.
use Rattle.std.specs.Prelude.{◌≡◌, ℕ, Bool, true, List, ◌++◌, map, Some, slice_get}
use Rattle.sq_ast.specs.declared.program.Param.{Param}
use Rattle.sq_ast.specs.declared.program.Program.{Program}
use Rattle.sq_ast.specs.declared.program.Variant.{Variant}
use Rattle.sq_machfile.specs.declared.level.Level.{Level}
use Rattle.sq_forms.specs.Mappings.declared.mapping.Instance.{Instance}
use Rattle.sq_forms.specs.Mappings.declared.mapping.Mapping.{Mapping}
use Rattle.sq_forms.specs.Mappings.Sound.{Sound}
use Rattle.sq_num.specs.declared.Elem.{Elem}
use Rattle.sq_types.specs.Sound.{is_sound}
use Rattle.sq_blocks.specs.declared.argument.Argument.{Argument}
use Rattle.sq_forms.specs.declared.form.Found.{Found}
use Rattle.sq_forms.specs.declared.form.LocalArray.{LocalArray}
use Rattle.sq_spec.specs.Statements.{elems_of}
use Rattle.sq_ast.specs.Modes.{is_written}
use Rattle.sq_forms.specs.Decls.{Scope, empty_scope, params_from}
use Rattle.sq_forms.specs.Resolving.{Resolving, frame_in}
use Rattle.sq_forms.specs.Steps.{Called}
use Rattle.sq_forms.specs.Tables.{variant_of}
use Rattle.sq_spec.specs.FormLaws.Reached.{Ran, IsReached, body_calls}

-- which arrays of a form may be written: the parameters that are `out` or `inout`, and all locals
abbrev pub param_writes : List Param → List Bool
param_writes list = map (λ p. is_written p.mode) list

abbrev pub local_writes : List LocalArray → List Bool
local_writes list = map (λ l. true) list

abbrev pub writes_of : Variant → Scope → List Bool
writes_of v scope = param_writes v.params ++ local_writes scope.locals

-- an argument has the mode of its parameter, and is of an array of its element type
pub record HasType (elems : List Elem) (params : List Param) (j : ℕ) (a : Argument) : Type 0 where
  pub param : Param
  pub there : slice_get params j ≡ Some param
  pub mode : a.mode ≡ param.mode
  pub elem : slice_get elems a.array ≡ Some param.elem

-- Each argument of a reached call has its parameter's type.
abbrev pub ArgumentsHaveTypes : Type 0
ArgumentsHaveTypes = (program : Program) (levels : List Level) (mapping : Mapping) → is_sound program ≡ true
    → Sound program levels mapping
    → (r : Resolving) (k : ℕ) (f : Found) (x : Instance) (v : Variant) (begun : Scope)
    → slice_get mapping.instances f.instance ≡ Some x
    → variant_of program.tasks x.task x.kind ≡ Some v → params_from empty_scope v.params 0 f.extents ≡ Some begun
    → (ran : Ran program.tasks mapping.instances r k f x v begun)
    → (c : Called) (h : IsReached (frame_in program.tasks mapping.instances x k f) ran.scope.names
    (body_calls v.body) c)
    → (j : ℕ) (a : Argument) → slice_get h.arguments j ≡ Some a → HasType (elems_of v ran.scope) h.callee.params j a

-- And those that are written are of arrays that may be written.
abbrev pub WritesArePermitted : Type 0
WritesArePermitted = (program : Program) (levels : List Level) (mapping : Mapping) → is_sound program ≡ true
    → Sound program levels mapping
    → (r : Resolving) (k : ℕ) (f : Found) (x : Instance) (v : Variant) (begun : Scope)
    → slice_get mapping.instances f.instance ≡ Some x
    → variant_of program.tasks x.task x.kind ≡ Some v → params_from empty_scope v.params 0 f.extents ≡ Some begun
    → (ran : Ran program.tasks mapping.instances r k f x v begun)
    → (c : Called) (h : IsReached (frame_in program.tasks mapping.instances x k f) ran.scope.names
    (body_calls v.body) c)
    → (j : ℕ) (a : Argument) → slice_get h.arguments j ≡ Some a → is_written a.mode ≡ true
    → slice_get (writes_of v ran.scope) a.array ≡ Some true
