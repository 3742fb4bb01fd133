-- How `eval` ends.
use Rattle.std.proofs.Common.{◌≡◌, inl, inr, ℕ, List, [], ◌∷◌, Bool, false, Option, Some, None, Result, Ok, Err, refl, sym, ◌∙◌, subst}
use Rattle.sq_port.specs.Ports.{Content}
use Rattle.sq_text.specs.declared.code.Phase.TheVariants.{Program, Types, Machine, Mapping, Resolve, Race, Input}
use Rattle.sq_text.specs.declared.fault.Fault.{Fault}
use Rattle.sq_ast.specs.declared.program.Program.{Program as Tree}
use Rattle.sq_types.specs.Sites.{TypeFault}
use Rattle.sq_work.specs.Meaning.{Outcome}
use Rattle.sq_spec.specs.Works.{param_shapes}
use Rattle.sq_spec.specs.declared.resolved.Resolved.{Resolved}
use Rattle.sq_race.specs.Race.{IsFirstRace}
use Rattle.sq_flat.specs.Held.{Stored}
use Rattle.sq_flat.specs.Ends.{HoldsEnd}
use Rattle.sq_tree.specs.Bank.{BankSeen}
use Rattle.sq_words.specs.declared.words.Kind.TheVariants.{Eval}
use Rattle.sq_words.specs.Words.{Command, eval_of}
use Rattle.sq_report.specs.declared.trap.Trap.{Trap}
use Rattle.sq_driver.specs.declared.outside.end.End.{End}
use Rattle.sq_driver.specs.declared.outside.end.End.TheVariants.{Trapped, NoMemory}
use Rattle.sq_driver.specs.Phases.{opens, IsTold}
use Rattle.sq_driver.specs.Races.{IsResolved}
use Rattle.sq_driver.specs.Entry.{params_of}
use Rattle.sq_driver.specs.Outputs.{stored_texts}
use Rattle.sq_driver.specs.Meaning.{AllPassed, done, trapped, IsCause, Means}
use Rattle.sq_driver.specs.Banks.{Writing, whole, cut_out, AfterDone, BankAfter}
use Rattle.sq_driver.specs.Outcome.{Outside, Ended}
use Rattle.sq_driver.specs.Steps.{ReadsTree, Stopped}
use Rattle.sq_driver.specs.Evaluating.{HoldsProgram, HoldsSources, EndsFlat, Evaluates}
use Rattle.sq_driver.specs.Picking.{AreGiven, IsUnfit, ReadsGiven}
use Rattle.sq_driver.specs.SharedFiles.{ReadsSources}
use Rattle.sq_driver.proofs.Stopping.{phase_stops, stop_ends, memory_stops}
use Rattle.sq_driver.proofs.SourcePhases.{one, six}
use Rattle.sq_driver.proofs.DataPhase.{outcome_by, unfit, all_passed, gives_flat, no_trap, traps_flat}
use Rattle.sq_driver.proofs.Ending.{done_whole, done_cut}

abbrev pub reads_eval : ReadsSources Eval
reads_eval = record { rest = Input ∷ []; split = refl; fixed = refl; sourced = refl }

-- ---- the ends of the command

pub stops : (command : Command) (told : Option Content) (out : Option (List ℕ)) (faults : ℕ) (end : End)
    → ((bank : BankSeen) → Stopped command told bank bank end) → Evaluates command told out out faults faults (Err end)
stops command told out faults end stopped = inr (record { out_is = refl; faults_is = refl; stopped = stopped })

pub no_memory : (command : Command) (told : Option Content) (out : Option (List ℕ)) (faults : ℕ)
    → Evaluates command told out out faults faults (Err NoMemory)
no_memory command told out faults = stops command told out faults NoMemory
    (λ bank. memory_stops command told bank bank refl)

-- the same of another spelling of what is told
pub evaluates_same : (command : Command) (told that : Option Content) (out now_out : Option (List ℕ))
    (faults now_faults : ℕ) (result : Result (Unit {0}) End) → that ≡ told → Evaluates command that out now_out faults
    now_faults result → Evaluates command told out now_out faults now_faults result
evaluates_same command told that out now_out faults now_faults result same evaluates = subst
    (λ (t : Option Content). Evaluates command t out now_out faults now_faults result) same evaluates

-- of a command that doesn't open the bank
module _ (its : Command) (old now : Outside) (told : (c : Content) → IsTold its old.told c → old.told ≡ Some c)
    (closed : opens its.kind ≡ false) (err : now.err ≡ old.err) (err_faults : now.err_faults ≡ old.err_faults)
    (bank : now.bank ≡ old.bank) where
  means : (text : List ℕ) → ((c : Content) → old.told ≡ Some c → IsCause its c (done text []))
      → Means its old.told (done text [])
  means text cause = record { names = tt; cause = λ c is. cause c (told c is) }

  after : (text : List ℕ) (writing : Writing) → BankAfter its old.told (done text []) writing old.bank now.bank
  after text writing = subst (λ (b : Bool). AfterDone b its old.told writing text [] old.bank now.bank) (sym closed)
      (bank, refl)

  pub closed_ends : (result : Result (Unit {0}) End) → Evaluates its old.told old.out now.out old.out_faults
      now.out_faults result → Ended its old now result
  closed_ends (Ok tt) written = done_whole its old now written.text (means written.text written.cause) err err_faults
      written.gained written.same (after written.text whole)
  closed_ends (Err end) (inl cut) = subst (λ (e : End). Ended its old now (Err e)) (sym cut.end_is)
      (done_cut its old now cut.text (means cut.text cut.cause) err err_faults cut.gained cut.rose cut.later
      (after cut.text cut_out))
  closed_ends (Err end) (inr stop) = stop_ends its old now end
      (subst (λ (b : BankSeen). Stopped its old.told old.bank b end) (sym bank) (stop.stopped old.bank))
      (record { out = stop.out_is; out_faults = stop.faults_is; err = err; err_faults = err_faults })

pub ends : (p m k d : List ℕ) (old now : Outside) → now.err ≡ old.err → now.err_faults ≡ old.err_faults
    → now.bank ≡ old.bank → (result : Result (Unit {0}) End) → Evaluates (eval_of p m k d) old.told old.out now.out
    old.out_faults now.out_faults result → Ended (eval_of p m k d) old now result
ends p m k d old now err err_faults bank = closed_ends (eval_of p m k d) old now
    (one (eval_of p m k d) reads_eval p m k old.told) refl err err_faults bank

-- ---- the phases program and types

pub program_held : (p : List ℕ) (told that : Option Content) (tree typed : Tree) → that ≡ told → typed ≡ tree
    → ReadsTree told p (Ok tree) → ((f : Fault) → TypeFault tree f → ⊥) → HoldsProgram that p typed
program_held p told that tree typed same is reads none = subst (λ (t : Tree). HoldsProgram that p t) (sym is)
    (record { held = λ c at. reads c (sym same ∙ at); faultless = none })

-- ---- the data

module _ (p m k d : List ℕ) (told : Option Content) (r : Resolved)
    (are : IsResolved r.typed.now r.machine.now r.mapping.now r)
    (held : HoldsSources told p m k r.typed.now r.machine.now r.mapping.now) (free : IsFirstRace r None) where
  passed_six : (c : Content) → told ≡ Some c → AllPassed (eval_of p m k d) c
      (Program ∷ Types ∷ Machine ∷ Mapping ∷ Resolve ∷ Race ∷ [])
  passed_six c is = six (eval_of p m k d) reads_eval p m k told r.typed.now r.machine.now r.mapping.now held r are
      free c is

  pub data_stops : (bank : BankSeen) (end : End) → ReadsGiven r told d (Err end)
      → Stopped (eval_of p m k d) told bank bank end
  data_stops bank end stop = phase_stops (eval_of p m k d) told Input (λ c its. IsUnfit r (c d) its) bank bank
      (one (eval_of p m k d) reads_eval p m k told)
      (λ c is. record {
        before = Program ∷ Types ∷ Machine ∷ Mapping ∷ Resolve ∷ Race
            ∷ [];
        after = [];
        split = refl;
        passed = passed_six c (one (eval_of p m k d) reads_eval p m k told c is);
      })
      (unfit (eval_of p m k d) reads_eval p m k d told r held) refl (λ closed. refl) end stop

  module _ (c : Content) (is : told ≡ Some c) (arrays : Stored) (given : AreGiven r (c d) arrays) where
    all : AllPassed (eval_of p m k d) c (Program ∷ Types ∷ Machine ∷ Mapping ∷ Resolve ∷ Race ∷ Input ∷ [])
    all = all_passed (eval_of p m k d) reads_eval p m k d told r held c is arrays given
        (Program ∷ Types ∷ Machine ∷ Mapping ∷ Resolve ∷ Race ∷ []) refl (passed_six c is)

    pub gives : (now : Stored) → now.shapes ≡ param_shapes (params_of r.typed.now r.mapping.now) 0 given.its.extents
        → (o : Outcome) → outcome_by r.typed.now r.mapping.now given.its.extents given.values ≡ o
        → HoldsEnd arrays.shapes now o
        → IsCause (eval_of p m k d) c
        (done (stored_texts (params_of r.typed.now r.mapping.now) 0 given.its.extents now.bytes) [])
    gives now shapes o run ends = (
      all,
      gives_flat (eval_of p m k d) reads_eval p m k d told r held c is arrays given now shapes o run ends,
      no_trap (eval_of p m k d) reads_eval p m k d told r held c is arrays given now o run ends,
    )

    pub traps : (trap : Trap) (o : Outcome) → outcome_by r.typed.now r.mapping.now given.its.extents given.values ≡ o
        → EndsFlat arrays.shapes (Err (Trapped trap)) o → IsCause (eval_of p m k d) c (trapped trap [])
    traps trap (Ok after) run ends = absurd ends
    traps trap (Err its) run ends =
        (all, traps_flat (eval_of p m k d) reads_eval p m k d told r held c is arrays given trap its run ends)
