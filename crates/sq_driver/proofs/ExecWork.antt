-- What is known of `exec` before its order is read: its plan runs as the run under picks 0.
use Rattle.std.proofs.Common.{◌≡◌, inl, inr, ℕ, Bool, List, [], ◌∷◌, length, map, replicate, Option, Some, None, Result, Ok, Err, refl, sym, ◌∙◌, ap, subst}
use Rattle.std.specs.Prelude.{ℤ}
use Rattle.sq_port.specs.Ports.{Content}
use Rattle.sq_text.specs.declared.code.Phase.TheVariants.{Plan as PlanPhase, Order as OrderPhase, Input}
use Rattle.sq_text.specs.declared.fault.Fault.{Fault}
use Rattle.sq_arrays.specs.Arrays.{arrays_of}
use Rattle.sq_arrays.specs.Targets.{cells_of}
use Rattle.sq_leaf.specs.declared.trap.Trap.{Trap as LeafTrap}
use Rattle.sq_ir.specs.Events.{Bytes, Event}
use Rattle.sq_ir.specs.Plans.{IsGood}
use Rattle.sq_ir.specs.Runs.{State, Trap as Ending}
use Rattle.sq_ir.specs.Scopes.{Scope}
use Rattle.sq_tree.specs.declared.runs.RunEnd.{RunEnd}
use Rattle.sq_tree.specs.declared.runs.RunEnd.TheVariants.{Trapped as RunTrapped, SinkFault as RunSinkFault}
use Rattle.sq_ir.specs.Traffic.{no_counts}
use Rattle.sq_tree.specs.Bank.{BankSeen, bytes_at, bytes_in, leaves_in}
use Rattle.sq_tree.specs.Runs.{IsFirst as IsFirstRun, TellsFirst}
use Rattle.sq_planfile.specs.File.{PlanFile}
use Rattle.sq_lexer.specs.Faults.{IsTooLong}
use Rattle.sq_text.specs.First.{InTurn}
use Rattle.sq_planfile.specs.Faults.{IsBadLine, IsBadSyntax, Means}
use Rattle.sq_checker.specs.Laws.{IsChecked}
use Rattle.sq_launch.specs.Arrays.{wants_of, root_text, bytes_text}
use Rattle.sq_launch.specs.Starts.{HaveRoom, IsStart, read_parts, SoundFilesHaveRoom}
use Rattle.sq_words.specs.declared.words.Kind.TheVariants.{Exec}
use Rattle.sq_words.specs.Words.{Order, exec_of, no_files, plan_file, with_file}
use Rattle.sq_driver.specs.declared.outside.end.End.{End}
use Rattle.sq_driver.specs.Phases.{inputs_of, IsTold}
use Rattle.sq_driver.specs.Programs.{too_long_fault}
use Rattle.sq_driver.specs.Holding.{Holds}
use Rattle.sq_driver.specs.Faults.{IsFirstOf}
use Rattle.sq_driver.specs.Meaning.{Passed}
use Rattle.sq_driver.specs.Chosen.{ReadsFile}
use Rattle.sq_driver.specs.Executing.{IsFirstFileFault, FirstRun}
use Rattle.sq_driver.specs.Givens.{Given, Unfit}
use Rattle.sq_driver.specs.RunLaws.{ExecLaws}
use Rattle.sq_driver.specs.Steps.{Stopped, HoldsRight}
use Rattle.sq_driver.specs.Running.{Runner, EndsAs, HasEnd, EndsByRuns, MeetsData, HoldsWork, MayRun}
use Rattle.sq_driver.proofs.Running.{told_by}
use Rattle.sq_driver.proofs.Stopping.{is_there, phase_stops}
use Rattle.sq_driver.proofs.WholeFiles.{first_of_long}

some_same : {A : Type 0} (x y : A) → Some x ≡ Some y → x ≡ y
some_same x y is = cc

ok_same : {A B : Type 0} (x y : A) → ◌≡◌ {A = Result A B} (Ok x) (Ok y) → x ≡ y
ok_same x y is = cc

ok_or_err : {A B : Type 0} (x : A) (f : B) → Ok x ≡ Err f → ⊥
ok_or_err x f is = cc

no_end : {A : Type 0} (o : Option A) (x : A) → o ≡ None → o ≡ Some x → ⊥
no_end o x none some = let both : None ≡ Some x = sym none ∙ some in cc

same_end : {A : Type 0} (o : Option A) (x y : A) → o ≡ Some x → o ≡ Some y → x ≡ y
same_end o x y a b = cc

-- the file that the text stands for has room for its arrays
pub checked_may : SoundFilesHaveRoom → (text : List ℕ) (f : PlanFile) → IsChecked text f → MayRun f
checked_may law text f checked =
    let x = checked.means.lines in
    let same = checked.means.is in
    record {
      good = checked.good;
      room = subst (λ (g : PlanFile). HaveRoom g.plan g.arrays) (sym same)
          (law x checked.means.sound (subst (λ (g : PlanFile). IsGood (leaves_in g.plan) g.plan) same checked.good));
    }

-- ---- how the phase of the plan file ends

module _ (pl d : List ℕ) (said : Order) (traced : Bool) (told : Option Content) where
  abbrev runner : Runner
  runner = record { kind = Exec; files = with_file plan_file pl no_files }

  one : (c : Content) → IsTold (exec_of pl d said traced) told c → told ≡ Some c
  one c is = told_by runner d said traced told c is

  pub file_stops : (end : End) → ReadsFile told pl (Err end) → (bank : BankSeen)
      → Stopped (exec_of pl d said traced) told bank bank end
  file_stops end stops bank = phase_stops (exec_of pl d said traced) told PlanPhase
      (λ c g. Holds IsFirstFileFault (c pl) g) bank bank one
      (λ c is. record { before = []; after = OrderPhase ∷ Input ∷ []; split = refl; passed = tt })
      (λ c is g holds. holds) refl (λ closed. refl) end stops

  -- ---- the file is read

  module _ (laws : ExecLaws) (f : PlanFile) (may : MayRun f) (reads : ReadsFile told pl (Ok f)) where
    file_passed : (c : Content) → told ≡ Some c → Passed (exec_of pl d said traced) c PlanPhase
    file_passed c is = record {
      there = is_there c pl (reads c is).one.holds.0 (reads c is).one.holds.1;
      no_fault = (reads c is).no_fault;
    }

    module _ (c : Content) (is : told ≡ Some c) where
      abbrev right : HoldsRight Means IsFirstFileFault (c pl) f
      right = reads c is

      means : Holds Means (c pl) f
      means = right.one.holds

      -- a file that the text stands for is this one
      only : (g : PlanFile) → Holds Means (c pl) g → g ≡ f
      only g that = right.one.only g that

      module _ (nodes : List (List ℕ)) (start : IsStart f.plan f.arrays nodes)
          (gives : Given (wants_of f.arrays) (c d) (read_parts f.plan f.arrays nodes)) where
        fits : (g : Fault) → IsFirstOf Exec Input (inputs_of c (exec_of pl d said traced)) g → ⊥
        fits g first =
            let same = only first.file first.file_is in
            let bad : Unfit (wants_of f.arrays) (c d) g = subst (λ (x : PlanFile). Unfit (wants_of x.arrays) (c d) g) same
            first.unfit in
            let bytes : bad.bytes ≡ gives.bytes = some_same bad.bytes gives.bytes (sym bad.there ∙ gives.there) in
            ok_or_err gives.values bad.found
            (sym gives.read ∙ (ap (λ (b : List ℕ). arrays_of (wants_of f.arrays) b) (sym bytes) ∙ bad.read))

        abbrev run_from : (last : State Event Scope Bytes LeafTrap) → IsFirstRun f.plan (bytes_in nodes) last
            → FirstRun (inputs_of c (exec_of pl d said traced))
        run_from last first = record {
          file = f;
          file_is = means;
          nodes = nodes;
          start = start;
          given = gives;
          last = last;
          first = first;
        }

        -- the data leads to one beginning
        begins : (list : List (List ℕ)) → Given (wants_of f.arrays) (c d) list
            → list ≡ read_parts f.plan f.arrays nodes
        begins list that =
            let bytes : that.bytes ≡ gives.bytes = some_same that.bytes gives.bytes (sym that.there ∙ gives.there) in
            let values : that.values ≡ gives.values = ok_same that.values gives.values
            (sym that.read ∙ (ap (λ (b : List ℕ). arrays_of (wants_of f.arrays) b) bytes ∙ gives.read)) in
            that.are ∙ (ap (λ (vs : List (List ℤ)). cells_of (wants_of f.arrays) vs) values ∙ sym gives.are)

        abbrev Elsewhere : PlanFile → List (List ℕ) → State Event Scope Bytes LeafTrap → Type 0
        Elsewhere g those last = (IsStart g.plan g.arrays those)
            × (Given (wants_of g.arrays) (c d) (read_parts g.plan g.arrays those)
            × IsFirstRun g.plan (bytes_in those) last)

        here : (run : FirstRun (inputs_of c (exec_of pl d said traced)))
            → IsFirstRun f.plan (bytes_in nodes) run.last
        here run =
            let same = only run.file run.file_is in
            let moved : Elsewhere f run.nodes run.last = subst (λ (g : PlanFile). Elsewhere g run.nodes run.last) same
            (run.start, (run.given, run.first)) in
            let nodes_same : run.nodes ≡ nodes = laws.one f.plan f.arrays run.nodes nodes moved.0 start
            (begins (read_parts f.plan f.arrays run.nodes) moved.1.0) in
            subst (λ (ns : List (List ℕ)). IsFirstRun f.plan (bytes_in ns) run.last) nodes_same moved.1.1

        -- there is one
        abbrev some_run : (last : State Event Scope Bytes LeafTrap) × IsFirstRun f.plan (bytes_in nodes) last
        some_run =
            let run = laws.runs (leaves_in f.plan) f.plan (bytes_in nodes) in
            (run.2, record { zeros = run.0; events = run.1; ends = run.3 })

        -- and each ends so
        ended_as : (last : State Event Scope Bytes LeafTrap) → IsFirstRun f.plan (bytes_in nodes) last
            → (other : State Event Scope Bytes LeafTrap) → IsFirstRun f.plan (bytes_in nodes) other
            → other.ended ≡ last.ended
        ended_as last first other that = (laws.result (leaves_in f.plan) f.plan (bytes_in nodes) may.good
            (replicate that.zeros 0) that.events other that.ends first.zeros first.events last first.ends).0

        -- a run that is done, and one that traps
        module _ (now : List (List ℕ)) (sizes : map length now ≡ map length nodes) (result : Result (Unit {0}) RunEnd)
            (tells : TellsFirst f.plan (bytes_in nodes) (bytes_in now) result) where
          abbrev seen : List (List ℕ) → BankSeen
          seen ns = record {
            openings = 0;
            plan = Some f.plan;
            nodes = ns;
            events = None;
            counts = no_counts;
            edges = [];
          }

          text_now : (last : State Event Scope Bytes LeafTrap) → bytes_in now ≡ last.bytes
              → root_text f.plan f.arrays (bytes_at now 0) ≡ bytes_text f.plan f.arrays last.bytes
          text_now last same =
              laws.texts f.plan f.arrays now
              (laws.room f.plan f.arrays (seen now) may.room (record { plan = refl; sizes = sizes ∙ start.sizes })).0.within
              ∙ ap (λ (m : Bytes). bytes_text f.plan f.arrays m) same

          as_first : (result : Result (Unit {0}) RunEnd) → TellsFirst f.plan (bytes_in nodes) (bytes_in now) result
              → EndsAs Exec said.way (inputs_of c (exec_of pl d said traced))
              (root_text f.plan f.arrays (bytes_at now 0)) result
          as_first (Ok value) tells =
              let run = some_run in
              let its = tells.tells run.0 run.1 in (
                record { run = run_from run.0 run.1; done = its.0; text = text_now run.0 its.1 },
                λ trap traps. no_end traps.run.last.ended (record { path = traps.path; cause = traps.cause })
                    (tells.tells traps.run.last (here traps.run)).0 traps.ended,
              )
          as_first (Err (RunTrapped cause path)) tells =
              let run = some_run in
              record {
                run = run_from run.0 run.1;
                cause = cause;
                path = path;
                ended = tells.tells run.0 run.1;
                is = refl;
              }
          as_first (Err RunSinkFault) tells = tt

        has_end : (last : State Event Scope Bytes LeafTrap) → IsFirstRun f.plan (bytes_in nodes) last
            → (ended : Option (Ending LeafTrap)) → last.ended ≡ ended
            → HasEnd Exec said.way (inputs_of c (exec_of pl d said traced))
        has_end last first None is = inl (
          bytes_text f.plan f.arrays last.bytes,
          record { run = run_from last first; done = is; text = refl },
          λ trap traps. no_end traps.run.last.ended (record { path = traps.path; cause = traps.cause })
              (ended_as last first traps.run.last (here traps.run) ∙ is) traps.ended,
        )
        has_end last first (Some end) is = inr (
          record { kind = end.cause.kind; place = end.cause.place; path = end.path },
          record { run = run_from last first; cause = end.cause; path = end.path; ended = is; is = refl },
        )

        ends : EndsByRuns Exec said.way (inputs_of c (exec_of pl d said traced)) f nodes
        ends = record {
          fit = fits;
          tells = λ now sizes result tells. as_first now sizes result tells result tells;
          has = let run = some_run in has_end run.0 run.1 run.0.ended refl;
        }

      meets : MeetsData Exec said.way (inputs_of c (exec_of pl d said traced)) f
      meets = record { unfit = λ g bad. record { file = f; file_is = means; unfit = bad }; ends = ends }

    pub exec_works : HoldsWork runner d said traced told f
    exec_works = record {
      opens = refl;
      own = λ role. refl;
      shows = λ text. refl;
      before = PlanPhase ∷ [];
      split = refl;
      passed = λ c is. (file_passed c is, tt);
      work = record { good = may.good; of_files = λ c is. means c (one c is) };
      meets = meets;
    }

-- a text that is too long has no other fault before that
pub long_file : (text : List ℕ) → IsTooLong PlanPhase text → IsFirstFileFault text (too_long_fault PlanPhase)
long_file text long =
    let first = first_of_long PlanPhase text (InTurn (IsBadSyntax text) (IsBadLine text)) long in (
      inl first.0,
      λ g holds. elim holds [
        | inl fault ↦ first.1 g fault
        | inr flaw ↦ absurd (flaw.0 (too_long_fault PlanPhase) first.0)
      ],
    )
