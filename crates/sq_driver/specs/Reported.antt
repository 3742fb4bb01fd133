-- What `plan` writes.
use Rattle.std.specs.Prelude.{◌≡◌, ℕ, List}
use Rattle.sq_ir.specs.declared.plan.Plan.{Plan}
use Rattle.sq_spec.specs.declared.resolved.Resolved.{Resolved}
use Rattle.sq_compile.specs.Compiled.{IsPlanOf}
use Rattle.sq_report.specs.Reports.{report}
use Rattle.sq_driver.specs.Phases.{Inputs}
use Rattle.sq_driver.specs.Capacity.{AreFormsOf}

-- the report, on its machine, of the plan that is good for the program that the files hold
pub record GivesReport (inputs : Inputs) (out : List ℕ) : Type 0 where
  pub forms : Resolved
  pub its : AreFormsOf inputs forms
  pub plan : Plan
  pub plan_is : IsPlanOf forms plan
  pub text : out ≡ report forms.machine.now plan
