-- A trace that was cut begins the trace of a whole run.
use Rattle.std.specs.Prelude.{◌≡◌, ℕ, List, ◌++◌, Option}
use Rattle.sq_port.specs.Ports.{Content}
use Rattle.sq_leaf.specs.declared.trap.Trap.{Trap}
use Rattle.sq_ir.specs.Tree.{ready}
use Rattle.sq_ir.specs.Runs.{State}
use Rattle.sq_ir.specs.Scopes.{Scope}
use Rattle.sq_ir.specs.Events.{Bytes, Event, meaning, footprint}
use Rattle.sq_tree.specs.Bank.{BankSeen, leaves_in}
use Rattle.sq_tree.specs.Runs.{RunsUnder, start_of}
use Rattle.sq_tree.specs.Trace.{trace_text}
use Rattle.sq_orders.specs.Chosen.{chosen_answer, chosen_next}
use Rattle.sq_words.specs.Words.{Command}
use Rattle.sq_driver.specs.Banks.{IsCutRun}

-- The run goes on from the event whose line was cut, under the same order, until nothing is ready; and what was put
-- stands before the rest of that run's trace.
pub record BeginsWhole {command : Command} {told : Option Content} {got : List ℕ} {old now : BankSeen}
    (cut : IsCutRun command told got old now) : Type 0 where
  pub later : List Event
  pub picks : List ℕ
  pub last : State Event Scope Bytes Trap
  pub left : List ℕ
  pub runs : RunsUnder chosen_answer chosen_next (meaning (leaves_in cut.run.file.plan))
      (footprint (leaves_in cut.run.file.plan)) cut.run.held (start_of cut.run.file.plan cut.run.start) picks
      (cut.run.ran.events ++ later) last left
  pub over : ready last.rest ≡ 0
  pub rest : List ℕ
  pub begins : trace_text cut.run.file.plan (cut.run.ran.events ++ later) ≡ got ++ rest

-- Each trace that was cut does.
abbrev pub CutTracesBegin : Type 0
CutTracesBegin = (command : Command) (told : Option Content) (got : List ℕ) (old now : BankSeen)
    → (cut : IsCutRun command told got old now) → BeginsWhole cut
