-- What holds of the faults of plan files.
use Rattle.std.specs.Prelude.{List, ℕ}
use Rattle.sq_text.specs.declared.fault.Fault.{Fault}
use Rattle.sq_text.specs.First.{InTurn}
use Rattle.sq_ir.specs.DraftLeaves.{leaves_of}
use Rattle.sq_ir.specs.Plans.{IsGood}
use Rattle.sq_ir.specs.declared.plan.Plan.{Plan}
use Rattle.sq_planfile.specs.File.{PlanFile}
use Rattle.sq_planfile.specs.Faults.{PlanFault, Means}
use Rattle.sq_checker.specs.Flaws.{FlawFault}

-- the text stands for a plan file, whose plan has this flaw
pub record IsFlawed (text : List ℕ) (its : Fault) : Type 0 where
  pub file : PlanFile
  pub means : Means text file
  pub flaw : FlawFault file.plan its

-- Every fault of a plan file: of its text; and where there is none, of its plan.
abbrev pub FileFault : List ℕ → Fault → Type 0
FileFault text = InTurn (PlanFault text) (IsFlawed text)

-- the text stands for this file, whose plan has one result under every order, inside all capacities
pub record IsChecked (text : List ℕ) (f : PlanFile) : Type 0 where
  pub means : Means text f
  pub good : IsGood (leaves_of f.plan.draft) f.plan
