-- Which arrays of a form may be written, and what is asked of where the arrays of forms stand.
use Rattle.std.specs.Prelude.{◌≡◌, ℕ, zero, suc, ◌+◌, Bool, true, List, [], ◌∷◌, length, Option, Some, None}
use Rattle.std.specs.Prelude.{slice_get}
use Rattle.sq_ast.specs.Modes.{is_written}
use Rattle.sq_ast.specs.declared.program.Param.{Param}
use Rattle.sq_ast.specs.declared.program.Program.{Program}
use Rattle.sq_ast.specs.declared.program.Variant.{Variant}
use Rattle.sq_mapping.specs.declared.mapping.Instance.{Instance}
use Rattle.sq_mapping.specs.declared.mapping.Mapping.{Mapping}
use Rattle.sq_leaf.specs.declared.shape.Shape.{Shape}
use Rattle.sq_leaf.specs.Leaf.{Leaf as LeafSource}
use Rattle.sq_ir.specs.Events.{Leaves}
use Rattle.sq_forms.specs.declared.form.Found.{Found}
use Rattle.sq_forms.specs.Steps.{Forms, Key}
use Rattle.sq_forms.specs.Resolving.{entry_params}
use Rattle.sq_spec.specs.declared.body.Body.TheVariants as body
use Rattle.sq_spec.specs.declared.body.FormBody.{FormBody}
use Rattle.sq_spec.specs.Bodies.{body_of}
use Rattle.sq_placed.specs.declared.home.Home.TheVariants.{InPlace}
use Rattle.sq_placed.specs.declared.home.Homes.{Homes}
use Rattle.sq_cells.specs.Tree.{Cause}
use Rattle.sq_plan_laws.specs.Fitting.{LeafCoded}
use Rattle.sq_plan_laws.specs.LeafLaws.{codes_of}
use Rattle.sq_plan_laws.specs.Seated.{LeafSits}

-- ---- what may be written

-- the parameters of a form
abbrev pub params_at : List Variant → List Instance → Option (Key × Found) → List Param
params_at variants instances None = []
params_at variants instances (Some form) = entry_params variants (slice_get instances form.1.instance)

-- an array of a form with these parameters: a parameter that isn't `in`, or a local
abbrev pub may_write : List Param → ℕ → Bool
may_write [] i = true
may_write (p ∷ ps) zero = is_written p.mode
may_write (p ∷ ps) (suc i) = may_write ps i

-- of each form by its number
abbrev pub mays_of : List Variant → List Instance → Forms → ℕ → ℕ → Bool
mays_of variants instances forms k = may_write (params_at variants instances (slice_get forms k))

-- ---- homes

-- The homes of a form's arrays: one for each parameter, in the caller's array only where the form was found with that;
-- and a buffer for each local.
pub record AreHomes (f : Found) (arrays : List Shape) (h : Homes) : Type 0 where
  pub params : length h.params ≡ length f.extents
  pub locals : length arrays ≡ length h.params + length h.locals
  pub in_place : (i : ℕ) → slice_get h.params i ≡ Some InPlace → slice_get f.in_place i ≡ Some true

module _ (program : Program) (mapping : Mapping) (forms : Forms) where
  abbrev pub bodies_of : ℕ → FormBody
  bodies_of = body_of program.tasks mapping.instances forms

  abbrev pub HomesFit : (ℕ → Homes) → Type 0
  HomesFit homes = (k : ℕ) (form : Key × Found) → slice_get forms k ≡ Some form
      → AreHomes form.1 (bodies_of k).arrays (homes k)

  -- each form that is a leaf has its code under its number
  pub record LeafStands (leaves : Leaves Cause) (h : Homes) (leaf : LeafSource) (arrays : List Shape) : Type 0 where
    pub coded : LeafCoded (codes_of leaves) h.code leaf arrays
    pub sits : LeafSits leaves h.code leaf arrays arrays

  abbrev pub LeavesStand : Leaves Cause → (ℕ → Homes) → Type 0
  LeavesStand leaves homes = (k : ℕ) (leaf : LeafSource) → (bodies_of k).body ≡ body.Leaf leaf
      → LeafStands leaves (homes k) leaf (bodies_of k).arrays
