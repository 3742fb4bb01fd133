-- What lines have in common that differ in their places alone.
use Rattle.std.specs.Prelude.{◌≡◌, map}
use Rattle.sq_ir.specs.DraftLeaves.{leaves_of}
use Rattle.sq_ir.specs.Plans.{IsGood}
use Rattle.sq_ir.specs.declared.plan.Plan.{Plan}
use Rattle.sq_plantext.specs.declared.text.PlanText.{PlanText}
use Rattle.sq_planfile.specs.Files.{array_of, plan_of}
use Rattle.sq_planfile.specs.Sound.{IsSound}
use Rattle.sq_written_laws.specs.Moved.{AreMoved}
use Rattle.sq_unplaced_laws.specs.Unplaced.{AreSame}

-- the same plan, but for the places of its leaves' texts
pub record IsMovedPlan (p q : Plan) : Type 0 where
  pub term : p.draft.term ≡ q.draft.term
  pub buffers : p.draft.buffers ≡ q.draft.buffers
  pub leaves : AreMoved p.draft.leaves q.draft.leaves
  pub entry : p.draft.entry ≡ q.draft.entry
  pub offsets : p.offsets ≡ q.offsets
  pub nodes : p.nodes ≡ q.nodes

-- They are sound alike,
abbrev pub SameAreSound : Type 0
SameAreSound = (x y : PlanText) → AreSame x y → IsSound x → IsSound y

-- stand for the same plan and the same arrays, but for the places of leaves' texts,
abbrev pub SameAreMoved : Type 0
SameAreMoved = (x y : PlanText) → AreSame x y
    → IsMovedPlan (plan_of x) (plan_of y) × (map array_of x.arrays ≡ map array_of y.arrays)

-- and such plans are good alike.
abbrev pub MovedAreGood : Type 0
MovedAreGood = (p q : Plan) → IsMovedPlan p q → IsGood (leaves_of p.draft) p → IsGood (leaves_of q.draft) q
