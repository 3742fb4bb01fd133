-- The line that names an answer.
use Rattle.std.proofs.Common.{◌≡◌, ◌≤◌, inr, ℕ, zero, suc, ◌+◌, List, [], ◌∷◌, ◌++◌, length, take, ap, Bool, true, false, Option, Some, None, Result, Ok, Err, refl, sym, ◌∙◌, subst, arith}
use Rattle.sq_port.specs.Ports.{Content, Gains, GainsPrefix, Rose}
use Rattle.std.proofs.lemmas.List.{append-nil}
use Rattle.sq_port.proofs.Gained.{gains_both}
use Rattle.sq_tree.specs.Bank.{BankSeen}
use Rattle.sq_report.specs.declared.trap.Trap.{Trap}
use Rattle.sq_driver.specs.declared.outside.status.Status.{Status}
use Rattle.sq_driver.specs.declared.outside.status.Status.TheVariants.{Done, SinkFault}
use Rattle.sq_driver.specs.declared.outside.end.End.{End}
use Rattle.sq_driver.specs.declared.outside.end.End.TheVariants.{Usage as UsageEnd, Absent as AbsentEnd, FileFault as FileFaultEnd, Refused as RefusedEnd, Trapped as TrappedEnd, NoMemory as NoMemoryEnd, SinkFault as SinkFaultEnd}
use Rattle.sq_words.specs.Words.{Command}
use Rattle.sq_driver.specs.Phases.{opens}
use Rattle.sq_driver.specs.Ends.{status_of, end_text}
use Rattle.sq_driver.specs.Meaning.{Answer, done, refused, trapped, usage, file_fault, no_memory, absent}
use Rattle.sq_driver.specs.Banks.{Writing, whole, cut_out, cut_err, AfterTrap}
use Rattle.sq_driver.specs.Outcome.{status_for, out_text, trace_for, line_for, err_text, IsDone, IsEndOf, Outside, IsWhole, Puts, ResultFor}
use Rattle.sq_driver.specs.Top.{BankOf, Finished}

-- an end has its answer's status and line, and the answer isn't Done
pub record SameEnd (answer : Answer) (end : End) : Type 0 where
  pub status : status_of end ≡ status_for answer
  pub text : end_text end ≡ line_for answer
  pub out : out_text answer ≡ []
  pub not_done : IsDone answer → ⊥

same_at : (answer that : Answer) (end : End) → answer ≡ that → SameEnd that end → SameEnd answer end
same_at answer that end is same = subst (λ (a : Answer). SameEnd a end) (sym is) same

same_end : (answer : Answer) (end : End) → IsEndOf answer end → SameEnd answer end
same_end answer UsageEnd is = same_at answer usage UsageEnd is
    (record { status = refl; text = refl; out = refl; not_done = λ no. no })
same_end answer (AbsentEnd name) is = same_at answer (absent is.0 name.now) (AbsentEnd name) is.1
    (record { status = refl; text = refl; out = refl; not_done = λ no. no })
same_end answer (FileFaultEnd name) is = same_at answer (file_fault is.0 name.now) (FileFaultEnd name) is.1
    (record { status = refl; text = refl; out = refl; not_done = λ no. no })
same_end answer (RefusedEnd its) is = same_at answer (refused is.0 its) (RefusedEnd its) is.1
    (record { status = refl; text = refl; out = refl; not_done = λ no. no })
same_end answer (TrappedEnd trap) is = same_at answer (trapped trap is.0) (TrappedEnd trap) is.1
    (record { status = refl; text = refl; out = refl; not_done = λ no. no })
same_end answer NoMemoryEnd is = same_at answer no_memory NoMemoryEnd is
    (record { status = refl; text = refl; out = refl; not_done = λ no. no })
same_end answer SinkFaultEnd is = absurd is

-- the bank where only the line behind the trace is cut
trap_cut : (is_open : Bool) (command : Command) (told : Option Content) (trap : Trap) (trace more : List ℕ)
    (bank now_bank : BankSeen) → AfterTrap is_open command told whole trap trace bank now_bank
    → AfterTrap is_open command told (cut_err (trace ++ more)) trap trace bank now_bank
trap_cut false command told trap trace more bank now_bank after = after
trap_cut true command told trap trace more bank now_bank after = inr
    (record { run = after; more = more; got_is = refl })

line_cut : (more : List ℕ) (answer : Answer) → (IsDone answer → ⊥) → (command : Option Command)
    (told : Option Content) (bank now_bank : BankSeen) → BankOf command told answer whole bank now_bank
    → BankOf command told answer (cut_err (trace_for answer ++ more)) bank now_bank
line_cut more answer not_done None told bank now_bank after = after
line_cut more (done out trace) not_done (Some command) told bank now_bank after = absurd (not_done tt)
line_cut more (refused phase its) not_done (Some command) told bank now_bank after = after
line_cut more (trapped trap trace) not_done (Some command) told bank now_bank after = trap_cut (opens command.kind)
    command told trap trace more bank now_bank after
line_cut more usage not_done (Some command) told bank now_bank after = after
line_cut more (file_fault phase name) not_done (Some command) told bank now_bank after = after
line_cut more no_memory not_done (Some command) told bank now_bank after = after
line_cut more (absent phase name) not_done (Some command) told bank now_bank after = after

-- a front that goes beyond the first of two texts
take_behind : (xs ys : List ℕ) (n : ℕ) → take (length xs + n) (xs ++ ys) ≡ xs ++ take n ys
take_behind [] ys n = let none : 0 + n ≡ n = omega arith in ap (λ (k : ℕ). take k ys) none
take_behind (x ∷ xs) ys n =
    let next : suc (length xs) + n ≡ suc (length xs + n) = omega arith in
    ap (λ (k : ℕ). take k (x ∷ (xs ++ ys))) next ∙ ap (λ (l : List ℕ). x ∷ l) (take_behind xs ys n)

-- the outside once the line was put
abbrev with_err : Outside → Option (List ℕ) → ℕ → Outside
with_err mid err faults = record mid { err = err; err_faults = faults }

module _ (answer : Answer) (old mid : Outside) (err : Option (List ℕ)) (faults : ℕ) where
  -- the line was put whole
  named : (end : End) (status : Status) → SameEnd answer end → status ≡ status_of end
      → IsWhole answer (trace_for answer) old mid → Gains mid.err err (end_text end) → faults ≡ mid.err_faults
      → Finished answer whole old (with_err mid err faults) status
  named end status same is puts text counts = record {
    last = whole;
    later = λ command told bank now_bank after. after;
    status_is = is ∙ same.status;
    puts = record {
      out = puts.out;
      err = gains_both puts.err (subst (λ (l : List ℕ). Gains mid.err err l) same.text text);
      out_faults = puts.out_faults;
      err_faults = counts ∙ puts.err_faults;
    };
  }

  -- it was cut
  cut : (end : End) → SameEnd answer end → IsWhole answer (trace_for answer) old mid → GainsPrefix mid.err err
      (end_text end) → Rose mid.err_faults faults → mid.err_faults ≤ faults → Finished answer whole old
      (with_err mid err faults) SinkFault
  cut end same puts text rose later = record {
    last = cut_err (trace_for answer ++ take text.count (line_for answer));
    later = line_cut (take text.count (line_for answer)) answer same.not_done;
    status_is = refl;
    puts = record {
      out = subst (λ (l : List ℕ). Gains old.out mid.out l) same.out puts.out;
      count = length (trace_for answer) + text.count;
      prefix = sym (take_behind (trace_for answer) (line_for answer) text.count);
      err = gains_both puts.err (subst (λ (l : List ℕ). Gains mid.err err (take text.count l)) same.text text.gains);
      out_faults = puts.out_faults;
      err_later = subst (λ (n : ℕ). n ≤ faults) puts.err_faults later;
      err_faults = subst (λ (n : ℕ). Rose n faults) puts.err_faults rose;
    };
  }

-- a prefix of a part is one of the whole
longer : (n : ℕ) (xs ys : List ℕ) → (k : ℕ) × (take n xs ≡ take k (xs ++ ys))
longer zero xs ys = (0, refl)
longer (suc n) [] ys = (0, refl)
longer (suc n) (x ∷ xs) ys = let more = longer n xs ys in (suc more.0, ap (λ (l : List ℕ). x ∷ l) more.1)

-- no line is put behind Done
no_line : (answer : Answer) → IsDone answer → trace_for answer ≡ err_text answer
no_line (done out trace) its = sym (append-nil trace)
no_line (refused phase fault) its = absurd its
no_line (trapped trap trace) its = absurd its
no_line usage its = absurd its
no_line (file_fault phase name) its = absurd its
no_line no_memory its = absurd its
no_line (absent phase name) its = absurd its

done_status : (answer : Answer) → IsDone answer → Done ≡ status_for answer
done_status (done out trace) its = refl
done_status (refused phase fault) its = absurd its
done_status (trapped trap trace) its = absurd its
done_status usage its = absurd its
done_status (file_fault phase name) its = absurd its
done_status no_memory its = absurd its
done_status (absent phase name) its = absurd its

module _ (answer : Answer) (old mid : Outside) (err : Option (List ℕ)) (faults : ℕ) (same : mid.err ≡ err)
    (counts : mid.err_faults ≡ faults) where
  -- nothing is put behind Done
  pub done_ends : (writing : Writing) → ResultFor answer writing (Ok tt) → Puts writing answer (trace_for answer) old
      mid → Finished answer writing old (with_err mid err faults) Done
  done_ends whole its puts = record {
    last = whole;
    later = λ command told bank now_bank after. after;
    status_is = done_status answer its;
    puts = record {
      out = puts.out;
      err = subst (λ (o : Option (List ℕ)). Gains old.err o (err_text answer)) same
          (subst (λ (l : List ℕ). Gains old.err mid.err l) (no_line answer its) puts.err);
      out_faults = puts.out_faults;
      err_faults = sym counts ∙ puts.err_faults;
    };
  }
  done_ends cut_out its puts = absurd its
  done_ends (cut_err got) its puts = absurd its

  -- nor behind a text that was cut
  pub sink_ends : (writing : Writing) → ResultFor answer writing (Err SinkFaultEnd)
      → Puts writing answer (trace_for answer) old mid → Finished answer writing old (with_err mid err faults) SinkFault
  sink_ends whole its puts = absurd its
  sink_ends cut_out its puts = record {
    last = cut_out;
    later = λ command told bank now_bank after. after;
    status_is = refl;
    puts = record {
      done = puts.done;
      out = puts.out;
      err = subst (λ (o : Option (List ℕ)). Gains old.err o (err_text answer)) same
          (subst (λ (l : List ℕ). Gains old.err mid.err l) (no_line answer puts.done) puts.err);
      out_later = puts.out_later;
      out_faults = puts.out_faults;
      err_faults = sym counts ∙ puts.err_faults;
    };
  }
  sink_ends (cut_err got) its puts = record {
    last = cut_err got;
    later = λ command told bank now_bank after. after;
    status_is = refl;
    puts = record {
      out = puts.out;
      count = (longer puts.count (trace_for answer) (line_for answer)).0;
      prefix = puts.prefix ∙ (longer puts.count (trace_for answer) (line_for answer)).1;
      err = subst (λ (o : Option (List ℕ)). Gains old.err o got) same puts.err;
      out_faults = puts.out_faults;
      err_later = subst (λ (n : ℕ). old.err_faults ≤ n) counts puts.err_later;
      err_faults = subst (λ (n : ℕ). Rose old.err_faults n) counts puts.err_faults;
    };
  }

-- the line of any other end is put, whole or not
module _ (answer : Answer) (old mid : Outside) (start err : Option (List ℕ)) (start_faults faults : ℕ)
    (same : mid.err ≡ start) (counts : mid.err_faults ≡ start_faults) (end : End) (other : end ≡ SinkFaultEnd → ⊥) where
  pub line_ends : (writing : Writing) (status : Status) → status ≡ status_of end → Gains start err (end_text end)
      × (faults ≡ start_faults) → ResultFor answer writing (Err end) → Puts writing answer (trace_for answer) old mid
      → Finished answer writing old (with_err mid err faults) status
  line_ends whole status is text its puts = named answer old mid err faults end status (same_end answer end its) is
      puts (subst (λ (o : Option (List ℕ)). Gains o err (end_text end)) (sym same) text.0) (text.1 ∙ sym counts)
  line_ends cut_out status is text its puts = absurd (other its)
  line_ends (cut_err got) status is text its puts = absurd (other its.0)

  pub line_fails : (writing : Writing) → GainsPrefix start err (end_text end) × Rose start_faults faults
      → start_faults ≤ faults → ResultFor answer writing (Err end) → Puts writing answer (trace_for answer) old mid
      → Finished answer writing old (with_err mid err faults) SinkFault
  line_fails whole text later its puts = cut answer old mid err faults end (same_end answer end its) puts
      (subst (λ (o : Option (List ℕ)). GainsPrefix o err (end_text end)) (sym same) text.0)
      (subst (λ (n : ℕ). Rose n faults) (sym counts) text.1) (subst (λ (n : ℕ). n ≤ faults) (sym counts) later)
  line_fails cut_out text later its puts = absurd (other its)
  line_fails (cut_err got) text later its puts = absurd (other its.0)

-- the same of another spelling of the end
pub sink_at : (answer : Answer) (old mid : Outside) (err : Option (List ℕ)) (faults : ℕ) → mid.err ≡ err
    → mid.err_faults ≡ faults → (end : End) → end ≡ SinkFaultEnd → (writing : Writing) → ResultFor answer writing
    (Err end) → Puts writing answer (trace_for answer) old mid
    → Finished answer writing old (with_err mid err faults) SinkFault
sink_at answer old mid err faults same counts end is writing its puts = sink_ends answer old mid err faults same
    counts writing (subst (λ (e : End). ResultFor answer writing (Err e)) is its) puts

pub done_at : (answer : Answer) (old mid : Outside) (err : Option (List ℕ)) (faults : ℕ) → mid.err ≡ err
    → mid.err_faults ≡ faults → (ended : Result (Unit {0}) End) → ended ≡ Ok tt → (writing : Writing)
    → ResultFor answer writing ended → Puts writing answer (trace_for answer) old mid
    → Finished answer writing old (with_err mid err faults) Done
done_at answer old mid err faults same counts ended is writing its puts = done_ends answer old mid err faults same
    counts writing (subst (λ (r : Result (Unit {0}) End). ResultFor answer writing r) is its) puts
