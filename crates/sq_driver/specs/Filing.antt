-- The plan file of a program, which `compile` writes.
use Rattle.std.specs.Prelude.{◌≡◌, ℕ, List, Some}
use Rattle.sq_text.specs.declared.fault.Fault.{Fault}
use Rattle.sq_text.specs.Faults.{IsFirst}
use Rattle.sq_ir.specs.declared.plan.Plan.{Plan}
use Rattle.sq_plantext.specs.Layout.{laid_out}
use Rattle.sq_planfile.specs.declared.entry.EntryArray.{EntryArray}
use Rattle.sq_planfile.specs.File.{PlanFile, entry_arrays}
use Rattle.sq_planfile.specs.Limits.{TextFault}
use Rattle.sq_planfile.specs.Written.{written}
use Rattle.sq_spec.specs.declared.resolved.Resolved.{Resolved}
use Rattle.sq_compile.specs.Compiled.{IsPlanOf}
use Rattle.sq_driver.specs.Phases.{Inputs}
use Rattle.sq_driver.specs.Capacity.{AreFormsOf}
use Rattle.sq_driver.specs.Entry.{params_of}
use Rattle.sq_driver.specs.Givens.{Extents}

-- the arrays of the entry, in the buffers that the plan has for them
pub record AreArraysOf (forms : Resolved) (plan : Plan) (arrays : List EntryArray) : Type 0 where
  pub entry : Extents forms
  pub are : arrays ≡ entry_arrays (params_of forms.typed.now forms.mapping.now) entry.extents plan.draft.entry

-- the plan of the forms, with the arrays of the entry
pub record IsFileOf (forms : Resolved) (plan : Plan) (file : PlanFile) : Type 0 where
  pub plan_is : file.plan ≡ plan
  pub arrays : AreArraysOf forms plan file.arrays

-- the file of the plan that is good for the program
pub record Filed (inputs : Inputs) : Type 0 where
  pub forms : Resolved
  pub its : AreFormsOf inputs forms
  pub plan : Plan
  pub plan_is : IsPlanOf forms plan
  pub file : PlanFile
  pub file_is : IsFileOf forms plan file

-- it has too many events, too many levels or too long a text, and this fault before all others
pub record IsFirstOfText (inputs : Inputs) (its : Fault) : Type 0 where
  pub filed : Filed inputs
  pub first : IsFirst (TextFault filed.file) (Some its)

-- its text
pub record GivesFile (inputs : Inputs) (out : List ℕ) : Type 0 where
  pub filed : Filed inputs
  pub text : out ≡ laid_out (written filed.file)
