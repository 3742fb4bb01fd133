-- Each iteration of a draft's spread maps has a child.
use Rattle.std.specs.Prelude.{◌≡◌, ℕ, suc, List, length}
use Rattle.sq_machfile.specs.declared.level.Level.{Level}
use Rattle.sq_ir.specs.Written.{Setting}
use Rattle.sq_ir.specs.Plans.{node_at, placed}
use Rattle.sq_ir.specs.declared.plan.Buffer.{Buffer}
use Rattle.sq_ir.specs.declared.plan.PlanNode.{PlanNode}
use Rattle.sq_spec.specs.declared.resolved.Resolved.{Resolved}
use Rattle.sq_program_laws.specs.TermLaws.Fits.{AreBounds, IsMachine, NodeAt}
use Rattle.sq_program_laws.specs.PlanLaws.Buffers.{HaveLanes}
use Rattle.sq_homes.specs.Chosen.declared.choice.Choice.{Choice}
use Rattle.sq_draft_laws.specs.Choosing.{Walked, MayBeChosen, AreMemories, setting_of}
use Rattle.sq_draft_laws.specs.Drafts.{limits}
use Rattle.sq_draft_laws.specs.Owned.{draft_placed}

-- the nodes are a machine as a built term asks, down to this level, and the first one is its root
pub record IsDraftMachine (s : Setting) (nodes : List PlanNode) (last : ℕ) : Type 0 where
  pub bounds : AreBounds limits
  pub machine : IsMachine s limits last (NodeAt (length nodes) (λ n. (node_at nodes n).level))
  pub root : NodeAt (length nodes) (λ n. (node_at nodes n).level) 0 0

abbrev pub MachinesAreMachines : Type 0
MachinesAreMachines = (levels : List Level) (nodes : List PlanNode) → AreMemories levels nodes
    → (last : ℕ) → length levels ≡ suc last
    → (buffers : List Buffer) (offset : ℕ → ℕ) → IsDraftMachine (placed buffers nodes offset) nodes last

-- A map that is spread has a lower call in it, so that its form stands above the last level, and its node has children.
abbrev pub LanesAreThere : Type 0
LanesAreThere = (r : Resolved) → Walked r → (choices : List Choice) → MayBeChosen r choices
    → (nodes : List PlanNode) → AreMemories r.machine.now.levels nodes → (offset : ℕ → ℕ)
    → HaveLanes (setting_of r choices nodes offset) (draft_placed r choices) 0 0
