-- Loops that overlap their transfers have room for it.
use Rattle.std.specs.Prelude.{◌≡◌, ℕ, true, List, [], map, get_or, ◌⊎◌}
use Rattle.sq_machfile.specs.Machines.{WithinLimits}
use Rattle.sq_spec.specs.declared.resolved.Resolved.{Resolved}
use Rattle.sq_spec_laws.specs.Needs.{RunsAt}
use Rattle.sq_ir.specs.declared.plan.Draft.{Draft}
use Rattle.sq_nests.specs.Drafts.{HasSpace}
use Rattle.sq_plan_good.specs.Homes.Chosen.declared.choice.Choice.{Choice}
use Rattle.sq_plan_good.specs.Homes.Drafts.{IsDraftOf}
use Rattle.sq_plan_good.specs.DraftLaws.Choosing.{Walked}
use Rattle.sq_pass_laws.specs.Hoist.Choices.{hoisted}
use Rattle.sq_plan_good.specs.DraftLaws.Memories.{plan_node}
use Rattle.sq_plan_good.specs.Room.{LoopsHaveEnough}
use Rattle.sq_pass_laws.specs.Pipe.Runs.{is_marked, marks_of}
use Rattle.sq_pass_laws.specs.Pipe.Greedy.{overlapped}

-- ---- on the way

-- the k-th form runs at the node
abbrev pub Runs : Resolved → (k node : ℕ) → Type 0
Runs r k node = RunsAt r.typed.now.tasks r.mapping.now.instances r.machine.now.nodes r.forms k node

-- Where a form runs, its marks say so.
abbrev pub RunsAreMarked : Type 0
RunsAreMarked = (r : Resolved) → Walked r → WithinLimits r.machine.now → (k node : ℕ) → Runs r k node
    → is_marked (get_or (marks_of r) k []) node ≡ true

-- The loops that were taken have iterations for the nodes of their forms.
abbrev pub OverlapsHaveEnough : Type 0
OverlapsHaveEnough = (r : Resolved) → Walked r → WithinLimits r.machine.now → LoopsHaveEnough r (overlapped r)

-- ---- the law

-- in the memories of the program's machine each draft of these choices has room
abbrev pub HaveSpace : Resolved → List Choice → Type 0
HaveSpace r choices = (d : Draft) → IsDraftOf r choices d → HasSpace d (map plan_node r.machine.now.nodes)

-- No loop overlaps its transfers; or all nodes have room where loops do, and where none does.
abbrev pub OverlapsHaveRoom : Type 0
OverlapsHaveRoom = (r : Resolved) → Walked r → WithinLimits r.machine.now
    → (overlapped r ≡ hoisted r) ⊎ (HaveSpace r (overlapped r) × HaveSpace r (hoisted r))
