-- What is known of each call that is reached, whichever way it is said to be reached.
use Rattle.std.specs.Prelude.{◌≡◌, ℕ, List, map, length, Some, slice_get}
use Rattle.sq_ast.specs.declared.program.Variant.{Variant}
use Rattle.sq_ast.specs.declared.stmt.Call.{Call}
use Rattle.sq_forms.specs.Mappings.declared.mapping.Instance.{Instance}
use Rattle.sq_forms.specs.Mappings.declared.mapping.Mapping.{Mapping}
use Rattle.sq_blocks.specs.declared.argument.Argument.{Argument}
use Rattle.sq_forms.specs.declared.form.Found.{Found}
use Rattle.sq_forms.specs.Args.{Names, is_reduced}
use Rattle.sq_forms.specs.Decls.{Scope, empty_scope, params_from}
use Rattle.sq_spec.specs.FormLaws.Insides.{LiesIn, arrays_of}
use Rattle.sq_spec.specs.FormLaws.Reached.{Ran, IsReached, body_calls}
use Rattle.sq_forms.specs.Resolving.{Resolving, frame_in}
use Rattle.sq_forms.specs.Steps.{Called}
use Rattle.sq_forms.specs.Worlds.{Frame}

-- Of a form that has as many extents as its variant has parameters, each argument of a reached call lies inside its
-- array.
abbrev pub ReachedLieInside : Type 0
ReachedLieInside = (variants : List Variant) (mapping : Mapping) (r : Resolving) (k : ℕ) (f : Found) (x : Instance)
    (v : Variant) (begun : Scope)
    → params_from empty_scope v.params 0 f.extents ≡ Some begun → length f.extents ≡ length v.params
    → (ran : Ran variants mapping.instances r k f x v begun)
    → (c : Called) (h : IsReached (frame_in variants mapping.instances x k f) ran.scope.names (body_calls v.body) c)
    → (j : ℕ) (a : Argument) → slice_get h.arguments j ≡ Some a
    → LiesIn (arrays_of f.extents ran.scope.locals) a.array a.rect

-- Which of its arguments are what is reduced into is said by its text alone.
abbrev pub FlagsAreOfText : Type 0
FlagsAreOfText = (frame : Frame) (names : Names) (text : List Call) (c : Called) (h : IsReached frame names text c)
    → map (λ (a : Argument). a.is_reduced) h.arguments ≡ map (is_reduced h.site.reduced) h.call.args
