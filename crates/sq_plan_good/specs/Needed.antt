-- The two definitions of what a node needs agree.
use Rattle.std.specs.Prelude.{◌≡◌, ℕ, ◌≤◌, ◌^◌, List, map, slice_get, Some}
use Rattle.sq_machfile.specs.Machines.{WithinLimits}
use Rattle.sq_forms.specs.declared.form.Form.{Form}
use Rattle.sq_ir.specs.declared.plan.Draft.{Draft}
use Rattle.sq_spec.specs.declared.resolved.Resolved.{Resolved}
use Rattle.sq_spec_laws.specs.Needs.{Needs}
use Rattle.sq_nests.specs.Drafts.{nested_sum}
use Rattle.sq_draft_laws.specs.Homes.Chosen.declared.choice.Choice.{Choice}
use Rattle.sq_draft_laws.specs.Homes.Chosen.Forms.{choice_in}
use Rattle.sq_draft_laws.specs.Homes.Drafts.{IsDraftOf}
use Rattle.sq_draft_laws.specs.Choosing.{Walked, MayBeChosen, NoneOverlaps}
use Rattle.sq_draft_laws.specs.Memories.{plan_node}

-- Choices in which arguments may leave loops, no loop overlaps its transfers, and just those arguments stand in place
-- that the forms were found with so. What leaves loops needs no more room.
pub record KeepInPlace (r : Resolved) (choices : List Choice) : Type 0 where
  pub hoisted : MayBeChosen r choices
  pub none : NoneOverlaps choices
  pub in_place : (k : ℕ) (f : Form) → slice_get r.forms k ≡ Some f → (choice_in choices k).in_place ≡ f.in_place

-- Under them, what a node needs by the forms that run at it is the greatest sum of buffers whose scopes stand within
-- one another there, in the draft.
abbrev pub NeedsAreSums : Type 0
NeedsAreSums = (r : Resolved) → Walked r → WithinLimits r.machine.now → (choices : List Choice) → KeepInPlace r choices
    → (d : Draft) → IsDraftOf r choices d → (node need : ℕ)
    → Needs r.typed.now.tasks r.mapping.now.instances r.machine.now.nodes r.forms node need
    → need ≡ nested_sum d (map plan_node r.machine.now.nodes) node

-- And that sum is what the node needs: no form that runs at it ends beyond the sum, and where the sum isn't 0 one ends
-- just there.
abbrev pub SumsAreNeeds : Type 0
SumsAreNeeds = (r : Resolved) → Walked r → WithinLimits r.machine.now → (choices : List Choice) → KeepInPlace r choices
    → (d : Draft) → IsDraftOf r choices d → (node : ℕ)
    → Needs r.typed.now.tasks r.mapping.now.instances r.machine.now.nodes r.forms node
    (nested_sum d (map plan_node r.machine.now.nodes) node)

-- A need is far below 2^64, whatever the node: at most 4,096 forms, of each at most 32 arrays of at most 2^26 elements.
abbrev pub NeedsAreSmall : Type 0
NeedsAreSmall = (r : Resolved) → Walked r → (node need : ℕ)
    → Needs r.typed.now.tasks r.mapping.now.instances r.machine.now.nodes r.forms node need → need ≤ 2 ^ 48
