-- What a form does: its arrays, and its leaf code or its statements with what each is begun with.
use Rattle.std.specs.Prelude.{◌≡◌, ℕ, zero, suc, true, List, [], Option, Some, None, Ok, Err, slice_get}
use Rattle.sq_ast.specs.declared.program.Body.{Body as Text}
use Rattle.sq_ast.specs.declared.program.Body.TheVariants as text
use Rattle.sq_ast.specs.declared.program.Variant.{Variant}
use Rattle.sq_form_laws.specs.Mappings.declared.mapping.Instance.{Instance}
use Rattle.sq_work.specs.Leaf.declared.shape.Shape.{Shape}
use Rattle.sq_work.specs.Leaf.Leaf.{IsLeaf, is_leaf_body, leaf_value}
use Rattle.sq_spec.specs.declared.body.Body.{Body}
use Rattle.sq_spec.specs.declared.body.Body.TheVariants as body
use Rattle.sq_spec.specs.declared.body.FormBody.{FormBody}
use Rattle.sq_form_laws.specs.Forms.declared.form.Found.{Found}
use Rattle.sq_form_laws.specs.Forms.Faults.{Value}
use Rattle.sq_form_laws.specs.Forms.Steps.{Forms, Key}
use Rattle.sq_form_laws.specs.Forms.Tables.{variant_of}
use Rattle.sq_form_laws.specs.Forms.Worlds.{Frame}
use Rattle.sq_form_laws.specs.Forms.Decls.{Scope, empty_scope, params_from, all_declared}
use Rattle.sq_form_laws.specs.Forms.Resolving.{frame_in}
use Rattle.sq_spec.specs.Statements.{elems_of, tables}
use Rattle.sq_work.specs.Work.{Work, Nothing, Leaf}
use Rattle.sq_spec.specs.Works.{shapes_of}
use Rattle.sq_spec.specs.StatementsWork.{statements_work}

-- a form without a variant does nothing
abbrev pub no_body : FormBody
no_body = record { arrays = []; body = body.Inner [] }

-- forms: all that were found
module _ (forms : Forms) where
  -- leaf code keeps the form's sizes and tunables
  abbrev pub what_runs : Frame → Variant → Text → Scope → Body
  what_runs frame v (text.Inner list) scope =
      body.Inner (tables forms frame scope.names (elems_of v scope) scope.numbers list)
  what_runs frame v (text.Leaf list) scope = body.Leaf (record { variant = v; numbers = scope.numbers })

  abbrev pub declared_body : Frame → Variant → Found → Value Scope → FormBody
  declared_body frame v f (Ok scope) = record { arrays = shapes_of v f scope; body = what_runs frame v v.body scope }
  declared_body frame v f (Err fault) = no_body

  abbrev pub scope_body : Frame → Instance → Variant → Found → Option Scope → FormBody
  scope_body frame x v f None = no_body
  scope_body frame x v f (Some scope) = declared_body frame v f (all_declared x.tunings scope v.decls)

  abbrev pub variant_body : List Variant → List Instance → Instance → ℕ → Found → Option Variant → FormBody
  variant_body variants instances x k f None = no_body
  variant_body variants instances x k f (Some v) =
      scope_body (frame_in variants instances x k f) x v f (params_from empty_scope v.params 0 f.extents)

  abbrev pub instance_body : List Variant → List Instance → ℕ → Found → Option Instance → FormBody
  instance_body variants instances k f None = no_body
  instance_body variants instances k f (Some x) =
      variant_body variants instances x k f (variant_of variants x.task x.kind)

  abbrev pub found_body : List Variant → List Instance → ℕ → Option (Key × Found) → FormBody
  found_body variants instances k None = no_body
  found_body variants instances k (Some form) =
      instance_body variants instances k form.1 (slice_get instances form.1.instance)

-- what the form with this number does
abbrev pub body_of : List Variant → List Instance → Forms → ℕ → FormBody
body_of variants instances forms k = found_body forms variants instances k (slice_get forms k)

-- ---- the work of a body, where forms are known by their numbers

-- callee: the work of a form; the arrays have these shapes
abbrev pub running : (ℕ → Work) → List Shape → Body → Work
running callee shapes (body.Leaf code) = Leaf (leaf_value code shapes)
running callee shapes (body.Inner list) = statements_work callee list

abbrev pub body_work : (ℕ → Work) → FormBody → Work
body_work callee b = running callee b.arrays b.body

-- of the form with this number, round which no more than n forms are called within one another
abbrev pub numbered_work : (ℕ → FormBody) → ℕ → ℕ → Work
numbered_work bodies zero k = Nothing
numbered_work bodies (suc n) k = body_work (numbered_work bodies n) (bodies k)

-- ---- what the code does

-- a variant that is no leaf, or that may be compiled
pub record MayCompile (v : Variant) : Type 0 where
  pub leaf : is_leaf_body v.body ≡ true → IsLeaf v

-- of these variants each leaf may be compiled
pub record AllCompile (variants : List Variant) : Type 0 where
  pub each : (i : ℕ) (v : Variant) → slice_get variants i ≡ Some v → MayCompile v
