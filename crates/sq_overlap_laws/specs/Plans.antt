-- What the nodes need for the program's draft, where loops overlap their transfers.
--
-- In the example of Taken, with the loop of form 1 taken, both sets of its arguments stand at the child within the
-- scopes of the draft: 64 bytes, which is just where form 1 ends. So the room that is asked for before a loop is taken
-- is the room that the plan takes, and no more.
use Rattle.std.specs.Prelude.{ℕ, map}
use Rattle.sq_machfile.specs.Machines.{WithinLimits}
use Rattle.sq_ir.specs.declared.plan.Draft.{Draft}
use Rattle.sq_spec.specs.declared.resolved.Resolved.{Resolved}
use Rattle.sq_nests.specs.Drafts.{nested_sum}
use Rattle.sq_plan_good.specs.DraftLaws.Choosing.{Walked}
use Rattle.sq_plan_good.specs.DraftLaws.Memories.{plan_node}
use Rattle.sq_plan_good.specs.Homes.Drafts.{IsDraftOf}
use Rattle.sq_pass_laws.specs.Pipe.Greedy.{taken_of, overlapped}
use Rattle.sq_overlap_laws.specs.Taken.{NodeNeeds}

-- The greatest sum of buffers whose scopes stand within one another at a node, in the program's draft, is what the node
-- needs where the loops that were taken overlap: the greatest end of a form that runs there.
abbrev pub SumsAreTakenNeeds : Type 0
SumsAreTakenNeeds = (r : Resolved) → Walked r → WithinLimits r.machine.now → (d : Draft) → IsDraftOf r (overlapped r) d
    → (node : ℕ) → NodeNeeds r (taken_of r) node (nested_sum d (map plan_node r.machine.now.nodes) node)
