-- From a command's end to the answer of the call.
use Rattle.std.proofs.Common.{◌≡◌, ℕ, Option, Some, None, Result, Ok, Err, refl, sym, subst}
use Rattle.sq_port.proofs.Gained.{gains_nothing}
use Rattle.sq_driver.specs.declared.outside.status.Status.{Status}
use Rattle.sq_driver.specs.declared.outside.end.End.{End}
use Rattle.sq_driver.specs.declared.outside.end.End.TheVariants.{Usage, Absent, FileFault, Refused, Trapped, NoMemory, SinkFault}
use Rattle.sq_words.specs.Words.{Command}
use Rattle.sq_driver.specs.Ends.{ending, FileCauses}
use Rattle.sq_driver.specs.Meaning.{Answer, done, refused, trapped, usage, file_fault, no_memory, absent}
use Rattle.sq_driver.specs.Banks.{Writing, whole, cut_out, cut_err}
use Rattle.sq_driver.specs.Outcome.{IsDone, HasEvents, IsEndOf, Outside, Puts, ResultFor, Ended, trace_for}
use Rattle.sq_tree.specs.Bank.{BankSeen}
use Rattle.sq_driver.specs.Top.{BankOf, FilesFor, Executed, Finished, Answered}

pub executed_of : (command : Option Command) (its : Command) (old now : Outside) (result : Result (Unit {0}) End)
    → command ≡ Some its → Ended its old now result → Executed command old now result
executed_of command its old now result is ended =
    subst (λ (c : Option Command). Executed c old now result) (sym is)
    (record {
      answer = ended.answer;
      writing = ended.writing;
      cause = ended.means;
      result_is = ended.result_is;
      puts =
          ended.puts;
      bank_after = ended.bank_after;
    })

-- words that are no command leave all as it was
pub none_executed : (command : Option Command) (world : Outside) → command ≡ None → Executed command world world
    (Err Usage)
none_executed command world is =
    subst (λ (k : Option Command). Executed k world world (Err Usage)) (sym is)
    (record {
      answer = usage;
      writing = whole;
      cause = refl;
      result_is = refl;
      puts =
          record { out = gains_nothing world.out; err = gains_nothing world.err; out_faults = refl; err_faults = refl };
      bank_after = refl;
    })

-- the same of another spelling of what is seen at the end
pub executed_same : (command : Option Command) (old now that : Outside) (result : Result (Unit {0}) End) → that ≡ now
    → Executed command old now result → Executed command old that result
executed_same command old now that result is executed = subst (λ (o : Outside). Executed command old o result)
    (sym is) executed

module _ (f f2 m m2 : ℕ) where
  -- an answer behind events is about no file
  events_files : (answer : Answer) → HasEvents answer → (f2 ≡ f) × (m2 ≡ m) → FilesFor answer f f2 m m2
  events_files (done out trace) has same = same
  events_files (refused phase its) has same = absurd has
  events_files (trapped trap trace) has same = same
  events_files usage has same = absurd has
  events_files (file_fault phase name) has same = absurd has
  events_files no_memory has same = absurd has
  events_files (absent phase name) has same = absurd has

  done_events : (answer : Answer) → IsDone answer → HasEvents answer
  done_events (done out trace) its = tt
  done_events (refused phase fault) its = absurd its
  done_events (trapped trap trace) its = absurd its
  done_events usage its = absurd its
  done_events (file_fault phase name) its = absurd its
  done_events no_memory its = absurd its
  done_events (absent phase name) its = absurd its

  at_answer : (answer that : Answer) → answer ≡ that → FilesFor that f f2 m m2 → FilesFor answer f f2 m m2
  at_answer answer that is files = subst (λ (a : Answer). FilesFor a f f2 m m2) (sym is) files

  end_files : (answer : Answer) (end : End) → IsEndOf answer end
      → FileCauses f f2 m m2 (ending {T = Unit {0}} (Err end)) → FilesFor answer f f2 m m2
  end_files answer Usage is causes = at_answer answer usage is (causes.quiet tt)
  end_files answer (Absent name) is causes = at_answer answer (absent is.0 name.now) is.1 (causes.absent refl)
  end_files answer (FileFault name) is causes = at_answer answer (file_fault is.0 name.now) is.1 (causes.fault refl)
  end_files answer (Refused its) is causes = at_answer answer (refused is.0 its) is.1 (causes.quiet tt)
  end_files answer (Trapped trap) is causes = at_answer answer (trapped trap is.0) is.1 (causes.quiet tt)
  end_files answer NoMemory is causes = at_answer answer no_memory is (causes.quiet tt)
  end_files answer SinkFault is causes = absurd is

  files_for : (answer : Answer) (writing : Writing) (old now : Outside) (result : Result (Unit {0}) End)
      → ResultFor answer writing result → Puts writing answer (trace_for answer) old now
      → FileCauses f f2 m m2 (ending result) → FilesFor answer f f2 m m2
  files_for answer whole old now (Ok tt) is puts causes = events_files answer (done_events answer is) (causes.quiet tt)
  files_for answer cut_out old now (Ok tt) is puts causes = absurd is
  files_for answer (cut_err got) old now (Ok tt) is puts causes = absurd is
  files_for answer whole old now (Err end) is puts causes = end_files answer end is causes
  files_for answer cut_out old now (Err end) is puts causes =
      let sink : FileCauses f f2 m m2 (ending {T = Unit {0}} (Err SinkFault)) = subst
      (λ (e : End). FileCauses f f2 m m2 (ending {T = Unit {0}} (Err e))) is causes in
      events_files answer (done_events answer puts.done) (sink.quiet tt)
  files_for answer (cut_err got) old now (Err end) is puts causes =
      let sink : FileCauses f f2 m m2 (ending {T = Unit {0}} (Err SinkFault)) = subst
      (λ (e : End). FileCauses f f2 m m2 (ending {T = Unit {0}} (Err e))) is.0 causes in
      events_files answer is.1 (sink.quiet tt)

-- the outside once the line was put
pub answered_of : {command : Option Command} {old mid now : Outside} {f f2 m m2 : ℕ} {result : Result (Unit {0}) End}
    {status : Status} → Executed command old mid result → FileCauses f f2 m m2 (ending result) → now.bank ≡ mid.bank
    → ((answer : Answer) (writing : Writing) → ResultFor answer writing result
    → Puts writing answer (trace_for answer) old mid → Finished answer writing old now status)
    → Answered command old now f f2 m m2 status
answered_of {command = command} {old = old} {mid = mid} {now = now} {f = f} {f2 = f2} {m = m} {m2 = m2}
    {result = result} executed causes bank finish =
    let finished = finish executed.answer executed.writing executed.result_is executed.puts in
    record {
      answer = executed.answer;
      writing = finished.last;
      cause = executed.cause;
      status_is = finished.status_is;
      puts = finished.puts;
      files = files_for f f2 m m2 executed.answer executed.writing old mid result executed.result_is executed.puts
          causes;
      bank_after = finished.later command old.told old.bank now.bank
          (subst (λ (b : BankSeen). BankOf command old.told executed.answer executed.writing old.bank b)
          (sym bank) executed.bank_after);
    }
