-- Each pass gives a draft whose plan is good, wherever its buffers stand with room for those that are live.
use Rattle.std.specs.Prelude.{List}
use Rattle.sq_spec.specs.declared.resolved.Resolved.{Resolved}
use Rattle.sq_ir.specs.declared.plan.Draft.{Draft}
use Rattle.sq_ir.specs.declared.plan.Plan.{Plan}
use Rattle.sq_ir.specs.declared.plan.PlanNode.{PlanNode}
use Rattle.sq_plan_good.specs.Homes.Chosen.declared.choice.Choice.{Choice}
use Rattle.sq_plan_good.specs.Homes.Drafts.{IsDraftOf}
use Rattle.sq_plan_good.specs.DraftLaws.Choosing.{AreMemories}
use Rattle.sq_passes.specs.Choices.{all_in_buffers, all_in_place}
use Rattle.sq_pass_laws.specs.Hoist.Choices.{hoisted}
use Rattle.sq_pass_laws.specs.Pipe.Greedy.{overlapped}
use Rattle.sq_plan_good.specs.Good.{HasNoRace, IsPlanWithRoom, IsGoodFor}

-- what a pass chooses
pub data IsOfPass (r : Resolved) : List Choice → Type 0 where
  Lowered : IsOfPass r (all_in_buffers r)
  Dropped : IsOfPass r (all_in_place r)
  Hoisted : IsOfPass r (hoisted r)
  Overlapped : IsOfPass r (overlapped r)

-- Without a race the plan of any pass's draft that has room in each state is good for the program: its run under picks 0
-- ends as the program means, and its unordered events are independent.
abbrev pub EachPassIsGood : Type 0
EachPassIsGood = (r : Resolved) → HasNoRace r → (choices : List Choice) → IsOfPass r choices → (d : Draft)
    → IsDraftOf r choices d → (nodes : List PlanNode) → AreMemories r.machine.now.levels nodes → (p : Plan)
    → IsPlanWithRoom d nodes p → IsGoodFor r choices nodes p
