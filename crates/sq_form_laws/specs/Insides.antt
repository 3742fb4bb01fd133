-- Each access of a form lies inside its array.
use Rattle.std.specs.Prelude.{◌≡◌, ℕ, List, ◌++◌, map, length, Some, slice_get}
use Rattle.sq_ast.specs.declared.program.Variant.{Variant}
use Rattle.sq_forms.specs.Mappings.declared.mapping.Instance.{Instance}
use Rattle.sq_forms.specs.Mappings.declared.mapping.Mapping.{Mapping}
use Rattle.sq_text.specs.declared.place.Span.{Span}
use Rattle.sq_blocks.specs.Insides.{AreSpansIn}
use Rattle.sq_forms.specs.declared.form.Found.{Found}
use Rattle.sq_forms.specs.declared.form.Use.{Use}
use Rattle.sq_blocks.specs.declared.argument.Argument.{Argument}
use Rattle.sq_forms.specs.declared.form.LocalArray.{LocalArray}
use Rattle.sq_forms.specs.Decls.{Scope, empty_scope, params_from}
use Rattle.sq_forms.specs.Resolving.{Resolving}
use Rattle.sq_forms.specs.Steps.{Called}
use Rattle.sq_form_laws.specs.Reached.{Ran, calls_in, steps_of}

-- the extents of a form's arrays: of its parameters, and then of its locals
abbrev pub arrays_of : List (List ℕ) → List LocalArray → List (List ℕ)
arrays_of extents locals = extents ++ map (λ l. l.extents) locals

-- an array of this number is among these, and the spans lie in it
pub record LiesIn (arrays : List (List ℕ)) (array : ℕ) (rect : List Span) : Type 0 where
  pub extents : List ℕ
  pub there : slice_get arrays array ≡ Some extents
  pub inside : AreSpansIn extents rect

-- Of a form that has as many extents as its variant has parameters, each argument of each call lies inside its array.
abbrev pub ArgumentsLieInside : Type 0
ArgumentsLieInside = (variants : List Variant) (mapping : Mapping) (r : Resolving) (k : ℕ) (f : Found) (x : Instance)
    (v : Variant) (begun : Scope)
    → params_from empty_scope v.params 0 f.extents ≡ Some begun → length f.extents ≡ length v.params
    → (ran : Ran variants mapping.instances r k f x v begun)
    → (i : ℕ) (c : Called) → (g : slice_get (calls_in (steps_of variants mapping.instances x v k f ran.scope)) i
    ≡ Some c)
    → (j : ℕ) (a : Argument) → slice_get (ran.reached i c g).arguments j ≡ Some a
    → LiesIn (arrays_of f.extents ran.scope.locals) a.array a.rect

-- And so does each of its accesses.
abbrev pub AccessesLieInside : Type 0
AccessesLieInside = (variants : List Variant) (mapping : Mapping) (r : Resolving) (k : ℕ) (f : Found) (x : Instance)
    (v : Variant) (begun : Scope)
    → params_from empty_scope v.params 0 f.extents ≡ Some begun → length f.extents ≡ length v.params
    → (ran : Ran variants mapping.instances r k f x v begun)
    → (uses : List Use) → slice_get r.uses k ≡ Some uses → (j : ℕ) (u : Use) → slice_get uses j ≡ Some u
    → LiesIn (arrays_of f.extents ran.scope.locals) u.array u.rect
