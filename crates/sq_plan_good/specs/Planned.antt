-- The plan of a program: the draft after all passes, placed in the machine's memories.
use Rattle.std.specs.Prelude.{◌≡◌, List, map}
use Rattle.sq_ir.specs.declared.plan.Plan.{Plan}
use Rattle.sq_ir.specs.declared.plan.PlanNode.{PlanNode}
use Rattle.sq_spec.specs.declared.resolved.Resolved.{Resolved}
use Rattle.sq_store.specs.Place.{IsPlaced}
use Rattle.sq_draft_laws.specs.Homes.Drafts.{IsDraftOf}
use Rattle.sq_draft_laws.specs.Choosing.{MayBeChosen}
use Rattle.sq_pipe.specs.Greedy.{overlapped}
use Rattle.sq_pipe.specs.Notes.{notes_of}
use Rattle.sq_draft_laws.specs.Memories.{plan_node}
use Rattle.sq_plan_good.specs.Good.{IsGoodFor}

-- the memories of the program's machine
abbrev pub memories_of : Resolved → List PlanNode
memories_of r = map plan_node r.machine.now.nodes

-- It has the program's draft, with a note for each argument that leaves a loop and for each loop that overlaps its
-- transfers, as these may, in these memories, none of which needs more than it has.
pub record IsPlacedFor (r : Resolved) (p : Plan) : Type 0 where
  pub may : MayBeChosen r (overlapped r)
  pub its : IsDraftOf r (overlapped r) p.draft
  pub notes : p.draft.notes ≡ notes_of r
  pub placed : IsPlaced p.draft (memories_of r) p

-- And it is good for the program.
abbrev pub IsGoodPlan : Resolved → Plan → Type 0
IsGoodPlan r p = IsGoodFor r (overlapped r) (memories_of r) p
