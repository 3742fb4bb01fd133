-- The file of a plan, written as a text and read again.
use Rattle.std.specs.Prelude.{◌≡◌, ℕ, List, Some}
use Rattle.sq_text.specs.declared.fault.Fault.{Fault}
use Rattle.sq_ir.specs.Runs.{exec}
use Rattle.sq_ir.specs.Events.{Bytes, meaning}
use Rattle.sq_ir.specs.DraftLeaves.{leaves_of}
use Rattle.sq_ir.specs.Plans.{setting_of, tree_of, IsGood}
use Rattle.sq_plantext.specs.Layout.{laid_out}
use Rattle.sq_planfile.specs.File.{PlanFile}
use Rattle.sq_planfile.specs.Limits.{TextFault}
use Rattle.sq_planfile.specs.Written.{written}
use Rattle.sq_planfile.specs.Faults.{PlanFault, Means}
use Rattle.sq_check_laws.specs.First.{IsFirstFlaw}
use Rattle.sq_check_laws.specs.declared.flaw.Flaw.{Flaw}
use Rattle.sq_layout_laws.specs.Readable.{IsReadable}
use Rattle.sq_layout_laws.specs.WrittenLaws.Again.{IsInOrder, HasSoundHeads}
use Rattle.sq_layout_laws.specs.WrittenLaws.Moved.{EndsAlike}

-- the text that the file is written as
abbrev pub text_of : PlanFile → List ℕ
text_of f = laid_out (written f)

-- The file that the text stands for has the plan's memories, buffers, offsets and arrays, its plan is good, and the run
-- under picks 0 ends alike, whatever bytes it begins with.
pub record IsSameFile (f g : PlanFile) : Type 0 where
  pub arrays : g.arrays ≡ f.arrays
  pub nodes : g.plan.nodes ≡ f.plan.nodes
  pub setting : setting_of g.plan ≡ setting_of f.plan
  pub entry : g.plan.draft.entry ≡ f.plan.draft.entry
  pub good : IsGood (leaves_of g.plan.draft) g.plan
  pub ends : (m : Bytes) → EndsAlike (exec (meaning (leaves_of g.plan.draft)) (tree_of g.plan) m)
      (exec (meaning (leaves_of f.plan.draft)) (tree_of f.plan) m)

-- The text stands for such a file and for no other; it has no fault, and the plan no flaw.
pub record IsFiled (f : PlanFile) : Type 0 where
  pub file : PlanFile
  pub means : Means (text_of f) file
  pub only : (g : PlanFile) → Means (text_of f) g → g ≡ file
  pub faultless : (its : Fault) → PlanFault (text_of f) its → ⊥
  pub flawless : (its : Flaw) → IsFirstFlaw (leaves_of file.plan.draft) file.plan (Some its) → ⊥
  pub same : IsSameFile f file

-- So it is with a good plan whose lines are sound and can be read, where its text keeps the limits.
abbrev pub GoodAreFiled : Type 0
GoodAreFiled = (f : PlanFile) → IsGood (leaves_of f.plan.draft) f.plan → IsInOrder f → HasSoundHeads f
    → IsReadable (written f) → ((its : Fault) → TextFault f its → ⊥) → IsFiled f
