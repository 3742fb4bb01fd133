-- The plan of the lines that a file is written out as.
use Rattle.std.specs.Prelude.{◌≡◌, List, [], map}
use Rattle.std.specs.List.{All}
use Rattle.sq_leaf.specs.declared.trap.Trap.{Trap}
use Rattle.sq_ir.specs.Runs.{Meaning, exec}
use Rattle.sq_ir.specs.Scopes.{Turn}
use Rattle.sq_ir.specs.Events.{Event, Bytes, Leaves}
use Rattle.sq_ir.specs.DraftLeaves.{leaves_of}
use Rattle.sq_ir.specs.Written.{at_root, count_of}
use Rattle.sq_ir.specs.Plans.{IsAllowed, Meets, setting_of, tree_of, IsWellFormed, IsGood}
use Rattle.sq_ir.specs.declared.plan.Plan.{Plan}
use Rattle.sq_planfile.specs.File.{PlanFile}
use Rattle.sq_planfile.specs.Files.{nodes_of, plan_of, numbers_of}
use Rattle.sq_planfile.specs.Written.{event_text, text_of, written}
use Rattle.sq_planfile.specs.Sound.{IsLeafText, IsBufferLine, AreArrays, AreViewTexts, IsSound}
use Rattle.sq_written_laws.specs.Alike.{AreAlike, RunAlike}

-- what the lines stand for that a file is written out as
abbrev pub again : PlanFile → Plan
again f = plan_of (written f)

-- Its arrays are those of the plan's entry, and the numbers of each leaf are those of its task's names, in the order of
-- their text.
pub record IsInOrder (f : PlanFile) : Type 0 where
  pub entry : map (λ a. a.buffer) f.arrays ≡ f.plan.draft.entry
  pub numbers : All (λ l. numbers_of (text_of l) ≡ l.code.numbers) f.plan.draft.leaves

-- It is the plan itself, but for its notes and for how its events are grouped: it has the same memories, leaves,
-- buffers and offsets; its tree is the same but for groups.
pub record IsSamePlan (p q : Plan) : Type 0 where
  pub setting : setting_of p ≡ setting_of q
  pub leaves : leaves_of p.draft ≡ leaves_of q.draft
  pub entry : p.draft.entry ≡ q.draft.entry
  pub nodes : p.nodes ≡ q.nodes
  pub tree : AreAlike (tree_of p) (tree_of q)

-- So it runs as the plan does: under the same turns the same events are ready, with the same numbers, and the same
-- scopes are open; and its run under picks 0 ends alike.
pub record RunsSo (p q : Plan) : Type 0 where
  pub states : (turns : List Turn) → RunAlike (tree_of p) (tree_of q) turns
  pub ends : (w : Meaning Event Bytes Trap) (m : Bytes) → exec w (tree_of p) m ≡ exec w (tree_of q) m

abbrev pub WrittenAreSame : Type 0
WrittenAreSame = (f : PlanFile) → IsInOrder f → IsWellFormed (leaves_of f.plan.draft) f.plan
    → IsSamePlan (again f) f.plan

abbrev pub WrittenRunSo : Type 0
WrittenRunSo = (f : PlanFile) → IsInOrder f → IsWellFormed (leaves_of f.plan.draft) f.plan → RunsSo (again f) f.plan

-- ---- sound lines

-- each view that the plan's events have is such as a line may have
abbrev pub HasViewTexts : PlanFile → Type 0
HasViewTexts f = Meets (setting_of f.plan)
    (λ env bs a. IsAllowed (leaves_of f.plan.draft) (setting_of f.plan) env bs a
    × AreViewTexts (event_text (λ n. count_of (setting_of f.plan) n env) a))
    f.plan.draft.term at_root f.plan.draft.entry

-- The lines of its leaves, buffers and arrays are sound, and so are the lists of its views.
pub record HasSoundHeads (f : PlanFile) : Type 0 where
  pub leaves : All IsLeafText (written f).leaves
  pub buffers : All (IsBufferLine (nodes_of (written f))) (written f).buffers
  pub arrays : AreArrays (written f).buffers [] (written f).arrays
  pub views : HasViewTexts f

-- Then all lines are sound that a well formed plan is written out as; and where the plan is good, theirs is.
abbrev pub WrittenAreSound : Type 0
WrittenAreSound = (f : PlanFile) → IsInOrder f → IsWellFormed (leaves_of f.plan.draft) f.plan → HasSoundHeads f
    → IsSound (written f)

abbrev pub WrittenAreGood : Type 0
WrittenAreGood = (f : PlanFile) → IsInOrder f → IsGood (leaves_of f.plan.draft) f.plan → HasSoundHeads f
    → IsGood (leaves_of (again f).draft) (again f)
