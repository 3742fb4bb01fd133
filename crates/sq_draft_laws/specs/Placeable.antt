-- Drafts that can be placed.
use Rattle.std.specs.Prelude.{ℕ, List, []}
use Rattle.sq_ir.specs.declared.plan.Draft.{Draft}
use Rattle.sq_ir.specs.declared.plan.PlanNode.{PlanNode}
use Rattle.sq_spec.specs.declared.resolved.Resolved.{Resolved}
use Rattle.sq_term.specs.Terms.{body_in, homes_in}
use Rattle.sq_nests.specs.Nests.{named_in}
use Rattle.sq_nests.specs.Stacks.{of_level, HaveBefore}
use Rattle.sq_nests.specs.Drafts.{whole, IsPlaceable}
use Rattle.sq_program_laws.specs.TermLaws.Callers.{before}
use Rattle.sq_homes.specs.Chosen.declared.choice.Choice.{Choice}
use Rattle.sq_homes.specs.Chosen.Forms.{bodies_of}
use Rattle.sq_homes.specs.Drafts.{homes_of, IsDraftOf}
use Rattle.sq_draft_laws.specs.Choosing.{Walked, MayBeChosen, AreMemories}
use Rattle.sq_draft_laws.specs.Numbers.{HaveNumbers}

-- A draft can be placed in the memories of the program's machine.
abbrev pub DraftsArePlaceable : Type 0
DraftsArePlaceable = (r : Resolved) → Walked r → (choices : List Choice) → MayBeChosen r choices
    → (d : Draft) → IsDraftOf r choices d → (nodes : List PlanNode) → AreMemories r.machine.now.levels nodes
    → IsPlaceable d nodes

-- Of each level a buffer stands behind those of the forms round its form, and those of its form in front of it.
pub record IsStackedByForms (r : Resolved) (choices : List Choice) (d : Draft) : Type 0 where
  pub numbers : HaveNumbers r choices
  pub stacks : (level : ℕ) → HaveBefore (of_level d.buffers level)
      (before d.buffers (body_in (bodies_of r)) (homes_in (homes_of r choices)) numbers.numbering) []
      (named_in (whole d))

abbrev pub DraftsAreStackedByForms : Type 0
DraftsAreStackedByForms = (r : Resolved) → Walked r → (choices : List Choice) → MayBeChosen r choices
    → (d : Draft) → IsDraftOf r choices d → (nodes : List PlanNode) → AreMemories r.machine.now.levels nodes
    → IsStackedByForms r choices d
