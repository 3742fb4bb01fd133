-- Which plans are good for a program.
use Rattle.std.specs.Prelude.{◌≡◌, ◌<◌, ℕ, true, List, length, get_or, slice_get, Some, []}
use Rattle.sq_rect.specs.Placing.{IsIn}
use Rattle.sq_ast.specs.Modes.{is_read}
use Rattle.sq_leaf.specs.declared.shape.Shape.{Shape}
use Rattle.sq_leaf.specs.Source.{Arrays}
use Rattle.sq_blocks.specs.declared.argument.Argument.{Argument}
use Rattle.sq_work.specs.InTurn.{IsRaceFree}
use Rattle.sq_spec.specs.declared.resolved.Resolved.{Resolved}
use Rattle.sq_spec.specs.Bodies.{body_of}
use Rattle.sq_spec.specs.Works.{work_of, flat}
use Rattle.sq_ir.specs.Runs.{exec}
use Rattle.sq_ir.specs.Events as events
use Rattle.sq_ir.specs.Events.{Bytes}
use Rattle.sq_ir.specs.Unordered.{AllEvents}
use Rattle.sq_ir.specs.Plans.{setting_of, node_at, tree_of, IsGood}
use Rattle.sq_ir.specs.DraftLeaves as draft
use Rattle.sq_ir.specs.declared.plan.Draft.{Draft}
use Rattle.sq_ir.specs.declared.plan.Plan.{Plan}
use Rattle.sq_ir.specs.declared.plan.PlanNode.{PlanNode}
use Rattle.sq_cells.specs.Cells.{spot}
use Rattle.sq_cells.specs.Alike.{Weight, leaf_count}
use Rattle.sq_draft_laws.specs.PlanLaws.Codes.{loaded}
use Rattle.sq_term.specs.Terms.{body_in, homes_in}
use Rattle.sq_draft_laws.specs.PlanLaws.Entry.{plan_tree, held_in, EndsSo}
use Rattle.sq_placed.specs.Tables.{entry_placed}
use Rattle.sq_draft_laws.specs.ProgramLaws.Entry.{entry_shapes}
use Rattle.sq_draft_laws.specs.ProgramLaws.Held.{HoldsFit}
use Rattle.sq_draft_laws.specs.ProgramLaws.Piped.{PipesFit}
use Rattle.sq_draft_laws.specs.ProgramLaws.LeafCalls.{form_calls}
use Rattle.sq_nests.specs.Nests.{named_in}
use Rattle.sq_nests.specs.Stacks.{capped, total, of_level}
use Rattle.sq_nests.specs.Drafts.{whole, size_in, IsPlaceable, KeepsRoom}
use Rattle.sq_draft_laws.specs.TermLaws.Callers.{before}
use Rattle.sq_store.specs.Named.{EachNamed}
use Rattle.sq_store.specs.Place.{IsPlaced}
use Rattle.sq_draft_laws.specs.Homes.Chosen.declared.choice.Choice.{Choice}
use Rattle.sq_draft_laws.specs.Homes.Chosen.Forms.{bodies_of}
use Rattle.sq_draft_laws.specs.Homes.Drafts.{homes_of, args_of, IsDraftOf}
use Rattle.sq_draft_laws.specs.Given.{level_at}
use Rattle.sq_draft_laws.specs.Choosing.{MayBeChosen, AreMemories}
use Rattle.sq_draft_laws.specs.Numbers.{HaveNumbers}
use Rattle.sq_draft_laws.specs.AtLevels.{IsAtLevel}

-- no two iterations of its maps race
abbrev pub HasNoRace : Resolved → Type 0
HasNoRace r = IsRaceFree (work_of r.typed.now.tasks r.mapping.now r.found.entries)

-- the shapes of the entry's parameters
abbrev pub shapes_in : Resolved → List Shape
shapes_in r = entry_shapes (body_in (bodies_of r)) (args_of r)

-- ---- how it ends

-- The arrays that the entry reads hold the numbers that stand in their buffers. Of the others nothing is known.
pub record IsInput (r : Resolved) (p : Plan) (a : Arrays) (m : Bytes) : Type 0 where
  pub read : (n : ℕ) (x : Argument) (sh : Shape) (cs : List ℕ) → slice_get (args_of r) n ≡ Some x
      → is_read x.mode ≡ true → slice_get (shapes_in r) n ≡ Some sh → IsIn sh.extents cs
      → a n cs ≡ loaded sh (λ k. held_in (setting_of p) p.draft.entry m (spot n k)) cs

-- From whatever bytes, the run under picks 0 ends with the arrays that the program means, or with its first trap.
abbrev pub EndsAsMeant : Resolved → Plan → Type 0
EndsAsMeant r p = (a : Arrays) (m : Bytes) → IsInput r p a m
    → EndsSo (setting_of p) (shapes_in r) p.draft.entry (flat r.typed.now r.mapping.now a)
    (exec (events.meaning (draft.leaves_of p.draft)) (tree_of p) m)

-- ---- its events

-- Written out it is the tree of the placed source, part for part: at each call what is brought in, what the callee does
-- and what is given back, in the order of the source.
abbrev pub IsWrittenOut : Resolved → List Choice → Plan → Type 0
IsWrittenOut r choices p = tree_of p
    ≡ plan_tree (setting_of p)
    (entry_placed (body_in (bodies_of r)) (homes_in (homes_of r choices)) (length (bodies_of r)) (args_of r))
    (shapes_in r) p.draft.entry

-- ---- its leaf calls

-- It has one leaf event for each leaf call of the program and no other, with the number of the code of the call's form
-- and with its path.
abbrev pub HasLeafCalls : Resolved → List Choice → Plan → Type 0
HasLeafCalls r choices p = (f : Weight) → leaf_count f (tree_of p)
    ≡ form_calls (body_in (bodies_of r)) (λ form path. f (homes_in (homes_of r choices) form).code path)
    (length (bodies_of r)) 0 []

-- Each leaf event calls a form that is a leaf: it has the number of that form's code, and its node is of the form's
-- level.
abbrev pub LeavesAreAtHome : Resolved → List Choice → Plan → Type 0
LeavesAreAtHome r choices p = AllEvents
    (IsAtLevel (body_in (bodies_of r)) (homes_in (homes_of r choices)) (level_at r) (λ n. (node_at p.nodes n).level))
    (tree_of p)

-- ---- the whole

-- The plan of a program under these choices, which may be chosen, in these memories: it is well formed, its unordered
-- events are independent, its live buffers have room in each state, and its run ends as the program means; its events
-- are those of the placed source.
pub record IsGoodFor (r : Resolved) (choices : List Choice) (nodes : List PlanNode) (p : Plan) : Type 0 where
  pub may : MayBeChosen r choices
  pub draft_ : IsDraftOf r choices p.draft
  pub nodes_ : p.nodes ≡ nodes
  pub good : IsGood (draft.leaves_of p.draft) p
  pub ends : EndsAsMeant r p
  pub written_out : IsWrittenOut r choices p
  pub calls : HasLeafCalls r choices p
  pub at_home : LeavesAreAtHome r choices p

-- Each argument that leaves a loop by these choices may: it is the same in all turns of the loop, and apart from the
-- other arguments.
abbrev pub MayLeave : Resolved → List Choice → Type 0
MayLeave r choices =
    HoldsFit (body_of r.typed.now.tasks r.mapping.now.instances r.found.entries) (homes_in (homes_of r choices))

-- Each loop that overlaps its transfers by these choices may: what an iteration writes is clear of the next two.
abbrev pub MayOverlap : Resolved → List Choice → Type 0
MayOverlap r choices =
    PipesFit (body_of r.typed.now.tasks r.mapping.now.instances r.found.entries) (homes_in (homes_of r choices))

-- A draft of a program can be placed.
abbrev pub DraftsCanBePlaced : Type 0
DraftsCanBePlaced = (r : Resolved) (choices : List Choice) → MayBeChosen r choices
    → (d : Draft) → IsDraftOf r choices d → (nodes : List PlanNode) → AreMemories r.machine.now.levels nodes
    → IsPlaceable d nodes

-- A plan of the draft in these memories, wherever its buffers stand: its live buffers have room in each state.
pub record IsPlanWithRoom (d : Draft) (nodes : List PlanNode) (p : Plan) : Type 0 where
  pub draft_ : p.draft ≡ d
  pub many : length p.offsets ≡ length d.buffers
  pub nodes_ : p.nodes ≡ nodes
  pub room : KeepsRoom p

-- And where the program has no race, such a plan is good,
abbrev pub WithRoomAreGood : Type 0
WithRoomAreGood = (r : Resolved) → HasNoRace r → (choices : List Choice) → MayBeChosen r choices → MayLeave r choices
    → MayOverlap r choices → (d : Draft) → IsDraftOf r choices d → (nodes : List PlanNode)
    → AreMemories r.machine.now.levels nodes → (p : Plan) → IsPlanWithRoom d nodes p → IsGoodFor r choices nodes p

-- and so is the one whose buffers are stacked.
abbrev pub PlacedAreGood : Type 0
PlacedAreGood = (r : Resolved) → HasNoRace r → (choices : List Choice) → MayBeChosen r choices → MayLeave r choices
    → MayOverlap r choices → (d : Draft) → IsDraftOf r choices d → (nodes : List PlanNode)
    → AreMemories r.machine.now.levels nodes → (p : Plan) → IsPlaced d nodes p → IsGoodFor r choices nodes p

-- ---- where its buffers stand

-- The offset of a buffer: the bytes of the buffers of its level that the forms round its form have, and of those that
-- stand in front of it in its form.
pub record StandsByForms (r : Resolved) (choices : List Choice) (p : Plan) : Type 0 where
  pub numbers : HaveNumbers r choices
  pub each : (level : ℕ) → level < 8 → EachNamed (of_level p.draft.buffers level)
      (λ b. get_or p.offsets b 0 ≡ capped (total (size_in p.draft.buffers) (before p.draft.buffers
      (body_in (bodies_of r)) (homes_in (homes_of r choices)) numbers.numbering b)))
      (named_in (whole p.draft))

abbrev pub PlacedStandByForms : Type 0
PlacedStandByForms = (r : Resolved) → (choices : List Choice) → MayBeChosen r choices → (d : Draft)
    → IsDraftOf r choices d → (nodes : List PlanNode) → AreMemories r.machine.now.levels nodes → (p : Plan)
    → IsPlaced d nodes p → StandsByForms r choices p
