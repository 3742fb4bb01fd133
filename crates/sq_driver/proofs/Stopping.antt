-- How a phase stops a command, whichever it is.
use Rattle.std.proofs.Common.{◌≡◌, inl, inr, ℕ, List, [], false, Option, Some, None, Err, refl, sym, ◌∙◌, ap, subst}
use Rattle.sq_port.specs.Ports.{Content, Gains}
use Rattle.sq_port.proofs.Gained.{gains_nothing}
use Rattle.sq_text.specs.declared.code.Phase.{Phase}
use Rattle.sq_text.specs.declared.fault.Fault.{Fault}
use Rattle.sq_tree.specs.Bank.{BankSeen}
use Rattle.sq_driver.specs.declared.outside.end.End.{End}
use Rattle.sq_driver.specs.declared.outside.end.End.TheVariants.{Usage, Absent, FileFault, Refused, Trapped, NoMemory, SinkFault}
use Rattle.sq_words.specs.Words.{Files, Command}
use Rattle.sq_driver.specs.Phases.{file_of, is_open_at, inputs_of, IsTold}
use Rattle.sq_driver.specs.Faults.{IsFirstOf}
use Rattle.sq_driver.specs.Meaning.{Reached, refused, file_fault, no_memory, absent}
use Rattle.sq_driver.specs.Banks.{whole, AfterStop}
use Rattle.sq_driver.specs.Outcome.{out_text, trace_for, Outside, Ended}
use Rattle.sq_driver.specs.Steps.{Stops, Stopped}

some_same : {A : Type 0} (x y : A) → Some x ≡ Some y → x ≡ y
some_same x y is = cc

-- a file that is there serves each phase that reads it
pub is_there : (c : Content) (file text : List ℕ) → c file ≡ Some text → (name : List ℕ) → Some file ≡ Some name
    → (t : List ℕ) × (c name ≡ Some t)
is_there c file text there name is = (text, ap c (sym (some_same file name is)) ∙ there)

-- a phase without a file
pub no_file_there : (c : Content) (name : List ℕ) → None ≡ Some name → (t : List ℕ) × (c name ≡ Some t)
no_file_there c name is = absurd (let no : None ≡ Some name = is in cc)

-- what the files of a command with a program hold is told
pub told_of : (command : Command) (name : List ℕ) (told : Option Content) (c : Content)
    → command.files.program ≡ Some name → IsTold command told c → told ≡ Some c
told_of command name told c its (inl is) = is
told_of command name told c its (inr none) = absurd
    (let no : None ≡ Some name = sym (ap (λ (f : Files). f.program) none) ∙ its in cc)

-- a phase that is reached stops a command with the answer that it has then
module _ (command : Command) (told : Option Content) (phase : Phase) (Fails : Content → Fault → Type 0)
    (bank now_bank : BankSeen)
    (one : (c : Content) → IsTold command told c → told ≡ Some c)
    (reached : (c : Content) → IsTold command told c → Reached command c phase)
    (faulty : (c : Content) → told ≡ Some c → (its : Fault) → Fails c its
    → IsFirstOf command.kind phase (inputs_of c command) its)
    (left : AfterStop (is_open_at command.kind phase) command told bank now_bank)
    (kept : is_open_at command.kind phase ≡ false → now_bank ≡ bank) where
  pub phase_stops : (end : End) → Stops (is_open_at command.kind phase) phase told (file_of command phase) Fails end
      → Stopped command told bank now_bank end
  phase_stops Usage stops = absurd stops
  phase_stops (Absent name) stops = record {
    answer = absent phase name.now;
    means = record { names = stops.0; cause = λ c is. (stops.0, reached c is, stops.1 c (one c is)) };
    is = (phase, refl);
    silent = (refl, refl);
    bank_after = left;
  }
  phase_stops (FileFault name) stops = record {
    answer = file_fault phase name.now;
    means = record { names = stops; cause = λ c is. (stops, reached c is) };
    is = (phase, refl);
    silent = (refl, refl);
    bank_after = left;
  }
  phase_stops (Refused its) stops = record {
    answer = refused phase its;
    means = record { names = tt; cause = λ c is. (reached c is, faulty c (one c is) its (stops c (one c is))) };
    is = (phase, refl);
    silent = (refl, refl);
    bank_after = left;
  }
  phase_stops (Trapped trap) stops = absurd stops
  phase_stops NoMemory stops = record {
    answer = no_memory;
    means = record { names = tt; cause = λ c is. tt };
    is =
        refl;
    silent = (refl, refl);
    bank_after = kept stops;
  }
  phase_stops SinkFault stops = absurd stops

-- for want of memory a command stops before the bank is open
pub memory_stops : (command : Command) (told : Option Content) (bank now_bank : BankSeen) → now_bank ≡ bank
    → Stopped command told bank now_bank NoMemory
memory_stops command told bank now_bank kept =
    record {
      answer = no_memory;
      means = record { names = tt; cause = λ c is. tt };
      is = refl;
      silent =
          (refl, refl);
      bank_after = kept;
    }

-- the sinks are as they were
pub record Still (old now : Outside) : Type 0 where
  pub out : now.out ≡ old.out
  pub out_faults : now.out_faults ≡ old.out_faults
  pub err : now.err ≡ old.err
  pub err_faults : now.err_faults ≡ old.err_faults

pub gains_same : (before now : Option (List ℕ)) (text : List ℕ) → now ≡ before → text ≡ [] → Gains before now text
gains_same before now text same none = subst (λ (o : Option (List ℕ)). Gains before o text) (sym same)
    (subst (λ (t : List ℕ). Gains before before t) (sym none) (gains_nothing before))

pub stop_ends : (command : Command) (old now : Outside) (end : End) → Stopped command old.told old.bank now.bank end
    → Still old now → Ended command old now (Err end)
stop_ends command old now end stopped still = record {
  answer = stopped.answer;
  writing = whole;
  means = stopped.means;
  result_is = stopped.is;
  puts = record {
    out = gains_same old.out now.out (out_text stopped.answer) still.out stopped.silent.0;
    err = gains_same old.err now.err (trace_for stopped.answer) still.err stopped.silent.1;
    out_faults = still.out_faults;
    err_faults = still.err_faults;
  };
  bank_after = stopped.bank_after;
}
