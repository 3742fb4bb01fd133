-- The plan that a command runs, with the arrays that it works on: of a program, or of a plan file.
use Rattle.std.specs.Prelude.{Bool, true, false, Option}
use Rattle.sq_port.specs.Ports.{Content}
use Rattle.sq_ir.specs.Plans.{IsGood}
use Rattle.sq_tree.specs.Bank.{leaves_in}
use Rattle.sq_planfile.specs.File.{PlanFile}
use Rattle.sq_planfile.specs.Faults.{Means}
use Rattle.sq_spec.specs.declared.resolved.Resolved.{Resolved}
use Rattle.sq_compile.specs.Compiled.{IsPlanOf}
use Rattle.sq_words.specs.Words.{Command, plan_file}
use Rattle.sq_driver.specs.Phases.{inputs_of, is_filed, IsTold}
use Rattle.sq_driver.specs.Holding.{Holds}
use Rattle.sq_driver.specs.Capacity.{AreFormsOf}
use Rattle.sq_driver.specs.Filing.{AreArraysOf}

-- a plan that is good for these forms, which are those of the program that the files hold, and the arrays of its entry
pub record IsCompiled (command : Command) (told : Option Content) (f : PlanFile) : Type 0 where
  pub forms : Resolved
  pub its : IsPlanOf forms f.plan
  pub arrays : AreArraysOf forms f.plan f.arrays
  pub of_files : (c : Content) → IsTold command told c → AreFormsOf (inputs_of c command) forms

-- a plan that is good, with its arrays, as the plan file says
pub record IsRead (command : Command) (told : Option Content) (f : PlanFile) : Type 0 where
  pub good : IsGood (leaves_in f.plan) f.plan
  pub of_files : (c : Content) → IsTold command told c → Holds Means (inputs_of c command plan_file) f

abbrev pub IsWorkBy : (filed : Bool) → Command → Option Content → PlanFile → Type 0
IsWorkBy false command told f = IsCompiled command told f
IsWorkBy true command told f = IsRead command told f

abbrev pub IsWorkOf : Command → Option Content → PlanFile → Type 0
IsWorkOf command told f = IsWorkBy (is_filed command.kind) command told f
