-- The demo ends as the run of its texts does, but for the line in place of what that writes.
use Rattle.std.proofs.Common.{◌≡◌, inl, inr, ⊎_elim, ℕ, ◌≤◌, Bool, true, false, List, [], ◌∷◌, take, Option, Some, None, Result, Ok, Err, refl, sym, ◌∙◌, ap, subst, arith, ℤ}
use Rattle.sq_port.specs.Ports.{Content, Gains, Rose}
use Rattle.sq_text.specs.declared.fault.Fault.{Fault}
use Rattle.sq_text.specs.declared.code.Phase.{Phase}
use Rattle.sq_text.specs.declared.code.Phase.TheVariants.{Program, Types, Machine, Mapping, Resolve, Race, Capacity, Plan as PlanPhase, Cost, Order, Input}
use Rattle.sq_leaf.specs.declared.trap.Trap.{Trap}
use Rattle.sq_ir.specs.Events.{Event}
use Rattle.sq_ir.specs.declared.plan.Plan.{Plan}
use Rattle.sq_sched.specs.Rests.{Rest}
use Rattle.sq_planfile.specs.File.{PlanFile}
use Rattle.sq_tree.specs.Bank.{BankSeen}
use Rattle.sq_adder.specs.Sums.{text_sum}
use Rattle.sq_report.specs.Demo.{demo_line}
use Rattle.sq_demo.specs.Texts.{demo_content}
use Rattle.sq_words.specs.declared.words.Kind.TheVariants.{Run, Demo}
use Rattle.sq_words.specs.Words.{Role, program, mapping, machine, input, order, cost, plan_file, seed, demo_of}
use Rattle.sq_driver.specs.declared.outside.status.Status.{Status}
use Rattle.sq_driver.specs.declared.outside.status.Status.TheVariants.{Done as DoneStatus, Refused as RefusedStatus, Trapped as TrappedStatus, Usage as UsageStatus, FileFault as FileFaultStatus, SinkFault as SinkFaultStatus, NoMemory as NoMemoryStatus, Absent as AbsentStatus}
use Rattle.sq_driver.specs.declared.outside.end.End.{End}
use Rattle.sq_driver.specs.declared.outside.end.End.TheVariants.{Usage, Absent, FileFault, Refused, Trapped, NoMemory, SinkFault}
use Rattle.sq_driver.specs.Phases.{phases, file_of, Inputs, inputs_of}
use Rattle.sq_driver.specs.DemoRuns.{demo_run}
use Rattle.sq_driver.specs.Shown.{demo_text}
use Rattle.sq_driver.specs.Entry.{GivesFlat, TrapsFlat}
use Rattle.sq_driver.specs.Capacity.{AreFormsOf}
use Rattle.sq_driver.specs.Faults.{IsFirstOf}
use Rattle.sq_driver.specs.Meaning.{Passed, AllPassed, Reached, Answer, done, refused, trapped, usage, file_fault, no_memory, absent, IsCause, IsNamed, Means}
use Rattle.sq_driver.specs.Banks.{Writing, whole, cut_out, cut_err, IsOpenFor, IsUnrun, IsRun, IsPrinted, IsCutRun, AfterStop, BankAfter}
use Rattle.sq_driver.specs.Ends.{status_of, IsQuiet, FileCauses}
use Rattle.sq_driver.specs.Outcome.{out_text, trace_for, Outside, IsEndOf, HasEvents, ResultFor, Puts, Ended}
use Rattle.sq_driver.specs.Steps.{WroteOut}
use Rattle.sq_driver.proofs.Stopping.{gains_same}

-- ---- what it works on

role_same : (n : ℕ) (c : Content) (role : Role) → inputs_of (demo_content n) (demo_run n) role ≡ inputs_of c (demo_of n) role
role_same n c program = refl
role_same n c mapping = refl
role_same n c machine = refl
role_same n c input = refl
role_same n c order = refl
role_same n c cost = refl
role_same n c plan_file = refl

same_inputs : (n : ℕ) (c : Content) → inputs_of (demo_content n) (demo_run n) ≡ inputs_of c (demo_of n)
same_inputs n c = λ i role. role_same n c role i

no_file : (n : ℕ) (phase : Phase) → file_of (demo_of n) phase ≡ None
no_file n Program = refl
no_file n Types = refl
no_file n Machine = refl
no_file n Mapping = refl
no_file n Resolve = refl
no_file n Race = refl
no_file n Capacity = refl
no_file n PlanPhase = refl
no_file n Cost = refl
no_file n Order = refl
no_file n Input = refl

no_name : {A : Type 0} (x : A) → None ≡ Some x → ⊥
no_name x is = cc

some_same : (a b : List ℕ) → Some a ≡ Some b → a ≡ b
some_same a b is = cc

-- ---- what it means

-- a run and the demo have the same faults
of_run : (phase : Phase) (x : Inputs) (its : Fault) → IsFirstOf Demo phase x its → IsFirstOf Run phase x its
of_run Program x its h = h
of_run Types x its h = h
of_run Machine x its h = h
of_run Mapping x its h = h
of_run Resolve x its h = h
of_run Race x its h = h
of_run Capacity x its h = h
of_run PlanPhase x its h = h
of_run Cost x its h = h
of_run Order x its h = h
of_run Input x its h = h

of_demo : (phase : Phase) (x : Inputs) (its : Fault) → IsFirstOf Run phase x its → IsFirstOf Demo phase x its
of_demo Program x its h = h
of_demo Types x its h = h
of_demo Machine x its h = h
of_demo Mapping x its h = h
of_demo Resolve x its h = h
of_demo Race x its h = h
of_demo Capacity x its h = h
of_demo PlanPhase x its h = h
of_demo Cost x its h = h
of_demo Order x its h = h
of_demo Input x its h = h

passed_same : (n : ℕ) (c : Content) (phase : Phase) → Passed (demo_run n) (demo_content n) phase
    → Passed (demo_of n) c phase
passed_same n c phase passed = record {
  there = λ name file. absurd (no_name name (sym (no_file n phase) ∙ file));
  no_fault = λ its first. passed.no_fault its
      (subst (λ (x : Inputs). IsFirstOf Run phase x its) (sym (same_inputs n c))
      (of_run phase (inputs_of c (demo_of n)) its first));
}

all_same : (n : ℕ) (c : Content) (list : List Phase) → AllPassed (demo_run n) (demo_content n) list
    → AllPassed (demo_of n) c list
all_same n c [] all = tt
all_same n c (phase ∷ rest) all = (passed_same n c phase all.0, all_same n c rest all.1)

reached_same : (n : ℕ) (c : Content) (phase : Phase) → Reached (demo_run n) (demo_content n) phase
    → Reached (demo_of n) c phase
reached_same n c phase reached = record {
  before = reached.before;
  after = reached.after;
  split = reached.split;
  passed = all_same n c reached.before reached.passed;
}

-- with the line in place of the arrays
abbrev pub lined : ℕ → Answer → Answer
lined n (done out trace) = done (demo_text (seed n) out) trace
lined n (refused phase its) = refused phase its
lined n (trapped trap trace) = trapped trap trace
lined n usage = usage
lined n (file_fault phase name) = file_fault phase name
lined n no_memory = no_memory
lined n (absent phase name) = absent phase name

-- not about a file
abbrev NotFile : Answer → Type 0
NotFile (done out trace) = Unit {0}
NotFile (refused phase its) = Unit {0}
NotFile (trapped trap trace) = Unit {0}
NotFile usage = Unit {0}
NotFile (file_fault phase name) = ⊥
NotFile no_memory = Unit {0}
NotFile (absent phase name) = ⊥

cause_same : (n : ℕ) (c : Content) (a : Answer) → NotFile a → IsCause (demo_run n) (demo_content n) a
    → IsCause (demo_of n) c (lined n a)
cause_same n c (done out trace) quiet cause = (
  all_same n c (phases (demo_of n).kind) cause.0,
  record {
    arrays = out;
    flat = subst (λ (x : Inputs). GivesFlat x out) (same_inputs n c) cause.1;
    text = refl;
  },
  λ trap traps. cause.2 trap (subst (λ (x : Inputs). TrapsFlat x trap) (sym (same_inputs n c)) traps),
)
cause_same n c (refused phase its) quiet cause = (
  reached_same n c phase cause.0,
  of_demo phase (inputs_of c (demo_of n)) its
      (subst (λ (x : Inputs). IsFirstOf Run phase x its) (same_inputs n c) cause.1),
)
cause_same n c (trapped trap trace) quiet cause = (
  all_same n c (phases (demo_of n).kind) cause.0,
  subst (λ (x : Inputs). TrapsFlat x trap) (same_inputs n c) cause.1,
)
cause_same n c usage quiet cause = cause
cause_same n c (file_fault phase name) quiet cause = absurd quiet
cause_same n c no_memory quiet cause = tt
cause_same n c (absent phase name) quiet cause = absurd quiet

names_same : (n : ℕ) (a : Answer) → NotFile a → IsNamed (demo_run n) a → IsNamed (demo_of n) (lined n a)
names_same n (done out trace) quiet named = tt
names_same n (refused phase its) quiet named = tt
names_same n (trapped trap trace) quiet named = tt
names_same n usage quiet named = named
names_same n (file_fault phase name) quiet named = absurd quiet
names_same n no_memory quiet named = tt
names_same n (absent phase name) quiet named = absurd quiet

means_same : (n : ℕ) (told : Option Content) (a : Answer) → NotFile a
    → Means (demo_run n) (Some (demo_content n)) a → Means (demo_of n) told (lined n a)
means_same n told a quiet means = record {
  names = names_same n a quiet means.names;
  cause = λ c at. cause_same n c a quiet (means.cause (demo_content n) (inl refl));
}

-- ---- what it leaves of the bank

module _ (n : ℕ) (told : Option Content) (old now : BankSeen) where
  open_same : (file : PlanFile) (then : BankSeen) → IsOpenFor (demo_run n) (Some (demo_content n)) file old then
      → IsOpenFor (demo_of n) told file old then
  open_same file then opened = record {
    once = opened.once;
    is = opened.is;
    work = record {
      forms = opened.work.forms;
      its = opened.work.its;
      arrays = opened.work.arrays;
      of_files = λ c at. subst (λ (x : Inputs). AreFormsOf x opened.work.forms) (same_inputs n c)
          (opened.work.of_files (demo_content n) (inl refl));
    };
  }

  unrun_same : IsUnrun (demo_run n) (Some (demo_content n)) old now → IsUnrun (demo_of n) told old now
  unrun_same unrun = record {
    file = unrun.file;
    opened = open_same unrun.file now unrun.opened;
    none = unrun.none;
    zero = unrun.zero;
  }

  abbrev run_same : (Traced : Plan → List Event → Type 0) (Over : Rest Trap → Type 0)
      → IsRun (demo_run n) (Some (demo_content n)) Traced Over old now → IsRun (demo_of n) told Traced Over old now
  run_same Traced Over run = record {
    file = run.file;
    start = run.start;
    opened = open_same run.file run.start run.opened;
    none = run.none;
    zero = run.zero;
    read = λ c at. run.read (demo_content n) (inl refl);
    held = run.held;
    order_is = run.order_is;
    left = run.left;
    rest = run.rest;
    ran = run.ran;
    room = run.room;
    over = run.over;
  }

  printed_same : (out trace : List ℕ) → IsPrinted (demo_run n) (Some (demo_content n)) out trace old now
      → IsPrinted (demo_of n) told (demo_text (seed n) out) trace old now
  printed_same out trace printed = record {
    run = run_same _ _ printed.run;
    prints = ap (demo_text (seed n)) printed.prints;
  }

  cut_same : (got : List ℕ) → IsCutRun (demo_run n) (Some (demo_content n)) got old now
      → IsCutRun (demo_of n) told got old now
  cut_same got cut = record { traced = cut.traced; run = run_same _ _ cut.run }

  stop_same : (opened : Bool) → AfterStop opened (demo_run n) (Some (demo_content n)) old now
      → AfterStop opened (demo_of n) told old now
  stop_same false after = after
  stop_same true after = unrun_same after

  after_same : (a : Answer) (writing : Writing) → BankAfter (demo_run n) (Some (demo_content n)) a writing old now
      → BankAfter (demo_of n) told (lined n a) writing old now
  after_same (done out trace) whole after = printed_same out trace after
  after_same (done out trace) cut_out after = printed_same out trace after
  after_same (done out trace) (cut_err got) after = cut_same got after
  after_same (refused phase its) writing after = stop_same _ after
  after_same (trapped trap trace) whole after = run_same _ _ after
  after_same (trapped trap trace) cut_out after = run_same _ _ after
  after_same (trapped trap trace) (cut_err got) after =
      ⊎_elim (λ cut. inl (cut_same got cut))
      (λ named. inr (record { run = run_same _ _ named.run; more = named.more; got_is = named.got_is })) after
  after_same usage writing after = after
  after_same (file_fault phase name) writing after = stop_same _ after
  after_same no_memory writing after = after
  after_same (absent phase name) writing after = stop_same _ after

-- ---- its files and its sink don't fail

no_rise : Rose 0 0 → ⊥
no_rise rose = let low : 1 ≤ 0 = rose in omega arith

pub quiet_status : (status : Status) → FileCauses 0 0 0 0 status → IsQuiet status
quiet_status DoneStatus causes = tt
quiet_status RefusedStatus causes = tt
quiet_status TrappedStatus causes = tt
quiet_status UsageStatus causes = tt
quiet_status FileFaultStatus causes = absurd (no_rise (causes.fault refl).0)
quiet_status SinkFaultStatus causes = tt
quiet_status NoMemoryStatus causes = tt
quiet_status AbsentStatus causes = absurd (no_rise (causes.absent refl).0)

-- ---- how it ends

not_file : (a : Answer) (end : End) → IsEndOf a end → IsQuiet (status_of end) → NotFile a
not_file a Usage is quiet = subst (λ (x : Answer). NotFile x) (sym is) tt
not_file a (Absent name) is quiet = absurd quiet
not_file a (FileFault name) is quiet = absurd quiet
not_file a (Refused its) is quiet = subst (λ (x : Answer). NotFile x) (sym is.1) tt
not_file a (Trapped trap) is quiet = subst (λ (x : Answer). NotFile x) (sym is.1) tt
not_file a NoMemory is quiet = subst (λ (x : Answer). NotFile x) (sym is) tt
not_file a SinkFault is quiet = absurd is

same_end : (n : ℕ) (a : Answer) (end : End) → IsEndOf a end → IsEndOf (lined n a) end
same_end n a Usage is = ap (lined n) is
same_end n a (Absent name) is = (is.0, ap (lined n) is.1)
same_end n a (FileFault name) is = (is.0, ap (lined n) is.1)
same_end n a (Refused its) is = (is.0, ap (lined n) is.1)
same_end n a (Trapped trap) is = (is.0, ap (lined n) is.1)
same_end n a NoMemory is = ap (lined n) is
same_end n a SinkFault is = is

silent : (n : ℕ) (a : Answer) (end : End) → IsEndOf a end → out_text (lined n a) ≡ []
silent n a Usage is = ap (λ (x : Answer). out_text (lined n x)) is
silent n a (Absent name) is = ap (λ (x : Answer). out_text (lined n x)) is.1
silent n a (FileFault name) is = ap (λ (x : Answer). out_text (lined n x)) is.1
silent n a (Refused its) is = ap (λ (x : Answer). out_text (lined n x)) is.1
silent n a (Trapped trap) is = ap (λ (x : Answer). out_text (lined n x)) is.1
silent n a NoMemory is = ap (λ (x : Answer). out_text (lined n x)) is
silent n a SinkFault is = absurd is

same_trace : (n : ℕ) (a : Answer) → trace_for (lined n a) ≡ trace_for a
same_trace n (done out trace) = refl
same_trace n (refused phase its) = refl
same_trace n (trapped trap trace) = refl
same_trace n usage = refl
same_trace n (file_fault phase name) = refl
same_trace n no_memory = refl
same_trace n (absent phase name) = refl

-- an answer that comes behind events isn't about a file, and stays such
events_same : (n : ℕ) (a : Answer) → HasEvents a → HasEvents (lined n a) × NotFile a
events_same n (done out trace) has = (tt, tt)
events_same n (refused phase its) has = absurd has
events_same n (trapped trap trace) has = (tt, tt)
events_same n usage has = absurd has
events_same n (file_fault phase name) has = absurd has
events_same n no_memory has = absurd has
events_same n (absent phase name) has = absurd has

module _ (n : ℕ) (told now_told that : Option Content) (got : List ℕ) (err now_err : Option (List ℕ))
    (err_faults now_err_faults : ℕ) (bank now_bank : BankSeen) where
  -- the outside of the run of its texts
  abbrev given : Content → List ℕ → Outside
  given held was = record {
    told = Some held;
    out = Some was;
    out_faults = 0;
    err = err;
    err_faults = err_faults;
    bank = bank;
  }

  abbrev before : Outside
  before = given (demo_content n) []

  abbrev behind : Outside
  behind = record {
    told = that;
    out = Some got;
    out_faults = 0;
    err = now_err;
    err_faults = now_err_faults;
    bank = now_bank;
  }

  from_none : (held : Content) → held ≡ demo_content n → (was : List ℕ) → was ≡ []
      → (result : Result (Unit {0}) End) → Ended (demo_run n) (given held was) behind result
      → Ended (demo_run n) before behind result
  from_none held holds was none result ended =
      subst (λ (x : Content). Ended (demo_run n) (given x []) behind result) holds
      (subst (λ (x : List ℕ). Ended (demo_run n) (given held x) behind result) none ended)

  -- the outside of the demo, by what `out` has
  abbrev start : Option (List ℕ) → ℕ → Outside
  start out faults = record {
    told = told;
    out = out;
    out_faults = faults;
    err = err;
    err_faults = err_faults;
    bank = bank;
  }

  abbrev last : Option (List ℕ) → ℕ → Outside
  last out faults = record {
    told = now_told;
    out = out;
    out_faults = faults;
    err = now_err;
    err_faults = now_err_faults;
    bank = now_bank;
  }

  module _ (out : Option (List ℕ)) (faults : ℕ) (end : End) (quiet : IsQuiet (status_of end)) where
    stopped_by : (a : Answer) (writing : Writing) → Means (demo_run n) (Some (demo_content n)) a
        → ResultFor a writing (Err end) → Puts writing a (trace_for a) before behind
        → BankAfter (demo_run n) (Some (demo_content n)) a writing bank now_bank
        → Ended (demo_of n) (start out faults) (last out faults) (Err end)
    stopped_by a whole means is puts after = record {
      answer = lined n a;
      writing = whole;
      means = means_same n told a (not_file a end is quiet) means;
      result_is = same_end n a end is;
      puts = record {
        out = gains_same out out (out_text (lined n a)) refl (silent n a end is);
        err = subst (λ (t : List ℕ). Gains err now_err t) (sym (same_trace n a)) puts.err;
        out_faults = refl;
        err_faults = puts.err_faults;
      };
      bank_after = after_same n told bank now_bank a whole after;
    }
    stopped_by a cut_out means is puts after = absurd (no_rise puts.out_faults)
    stopped_by a (cut_err that) means is puts after = record {
      answer = lined n a;
      writing = cut_err that;
      means = means_same n told a (events_same n a is.1).1 means;
      result_is = (is.0, (events_same n a is.1).0);
      puts = record {
        out = gains_same out out [] refl refl;
        count = puts.count;
        prefix = puts.prefix ∙ ap (take puts.count) (sym (same_trace n a));
        err = puts.err;
        out_faults = refl;
        err_later = puts.err_later;
        err_faults = puts.err_faults;
      };
      bank_after = after_same n told bank now_bank a (cut_err that) after;
    }

    -- the run of its texts has stopped, and so has the demo
    pub demo_stopped : (held : Content) → held ≡ demo_content n → (was : List ℕ) → was ≡ []
        → Ended (demo_run n) (given held was) behind (Err end)
        → Ended (demo_of n) (start out faults) (last out faults) (Err end)
    demo_stopped held holds was none it =
        let ended = from_none held holds was none (Err end) it in
        stopped_by ended.answer ended.writing ended.means ended.result_is ended.puts ended.bank_after

  module _ (out now_out : Option (List ℕ)) (faults now_faults : ℕ) where
    line_put : (arrays trace : List ℕ) → Means (demo_run n) (Some (demo_content n)) (done arrays trace)
        → Puts whole (done arrays trace) trace before behind
        → IsPrinted (demo_run n) (Some (demo_content n)) arrays trace bank now_bank
        → (wrote : Result (Unit {0}) End) → WroteOut out now_out faults now_faults (demo_text (seed n) arrays) wrote
        → Ended (demo_of n) (start out faults) (last now_out now_faults) wrote
    line_put arrays trace means puts after (Ok tt) wrote = record {
      answer = done (demo_text (seed n) arrays) trace;
      writing = whole;
      means = means_same n told (done arrays trace) tt means;
      result_is = tt;
      puts = record { out = wrote.0; err = puts.err; out_faults = wrote.1; err_faults = puts.err_faults };
      bank_after = printed_same n told bank now_bank arrays trace after;
    }
    line_put arrays trace means puts after (Err Usage) wrote = absurd wrote
    line_put arrays trace means puts after (Err (Absent name)) wrote = absurd wrote
    line_put arrays trace means puts after (Err (FileFault name)) wrote = absurd wrote
    line_put arrays trace means puts after (Err (Refused its)) wrote = absurd wrote
    line_put arrays trace means puts after (Err (Trapped trap)) wrote = absurd wrote
    line_put arrays trace means puts after (Err NoMemory) wrote = absurd wrote
    line_put arrays trace means puts after (Err SinkFault) wrote = record {
      answer = done (demo_text (seed n) arrays) trace;
      writing = cut_out;
      means = means_same n told (done arrays trace) tt means;
      result_is = refl;
      puts = record {
        done = tt;
        out = wrote.0;
        err = puts.err;
        out_later = wrote.2;
        out_faults = wrote.1;
        err_faults = puts.err_faults;
      };
      bank_after = printed_same n told bank now_bank arrays trace after;
    }

    done_by : (a : Answer) (writing : Writing) → Means (demo_run n) (Some (demo_content n)) a
        → ResultFor a writing (Ok tt) → Puts writing a (trace_for a) before behind
        → BankAfter (demo_run n) (Some (demo_content n)) a writing bank now_bank
        → (wrote : Result (Unit {0}) End) → WroteOut out now_out faults now_faults (demo_line n (text_sum got)) wrote
        → Ended (demo_of n) (start out faults) (last now_out now_faults) wrote
    done_by (done arrays trace) whole means is puts after wrote text = line_put arrays trace means puts after wrote
        (subst (λ (x : List ℕ). WroteOut out now_out faults now_faults (demo_line n (text_sum x)) wrote)
        (some_same got arrays (puts.out.told [] refl)) text)
    done_by (refused phase its) whole means is puts after wrote text = absurd is
    done_by (trapped trap trace) whole means is puts after wrote text = absurd is
    done_by usage whole means is puts after wrote text = absurd is
    done_by (file_fault phase name) whole means is puts after wrote text = absurd is
    done_by no_memory whole means is puts after wrote text = absurd is
    done_by (absent phase name) whole means is puts after wrote text = absurd is
    done_by a cut_out means is puts after wrote text = absurd is
    done_by a (cut_err that) means is puts after wrote text = absurd is

    -- the run of its texts is done, and the demo's line is put, whole or not
    pub demo_done : (held : Content) → held ≡ demo_content n → (was : List ℕ) → was ≡ []
        → Ended (demo_run n) (given held was) behind (Ok tt) → (wrote : Result (Unit {0}) End)
        → (sum : ℤ) → sum ≡ text_sum got → WroteOut out now_out faults now_faults (demo_line n sum) wrote
        → Ended (demo_of n) (start out faults) (last now_out now_faults) wrote
    demo_done held holds was none it wrote sum summed text =
        let ended = from_none held holds was none (Ok tt) it in
        done_by ended.answer ended.writing ended.means ended.result_is ended.puts ended.bank_after wrote
        (subst (λ (s : ℤ). WroteOut out now_out faults now_faults (demo_line n s) wrote) summed text)
