-- How a command that runs a plan ends, once its order is read.
use Rattle.std.proofs.Common.{◌≡◌, ◌≤◌, inl, inr, ℕ, List, [], ◌∷◌, ◌++◌, append_assoc, length, map, take, Bool, true, false, Option, Some, None, Result, Ok, Err, if◌then◌else◌, refl, sym, ◌∙◌, ap, subst}
use Rattle.sq_port.specs.Ports.{Content, Gains, Rose}
use Rattle.sq_text.specs.declared.code.Phase.{Phase}
use Rattle.sq_text.specs.declared.code.Phase.TheVariants.{Order as OrderPhase, Input}
use Rattle.sq_leaf.specs.declared.trap.Trap.{Trap as LeafTrap}
use Rattle.sq_ir.specs.Tree.{ready}
use Rattle.sq_ir.specs.Runs.{Trap as Ending}
use Rattle.sq_ir.specs.Events.{Event}
use Rattle.sq_ir.specs.declared.plan.Plan.{Plan}
use Rattle.sq_sched.specs.Rests.{Rest}
use Rattle.sq_planfile.specs.File.{PlanFile}
use Rattle.sq_launch.specs.Arrays.{wants_of, read_places, root_text}
use Rattle.sq_launch.specs.Starts.{IsStart, read_parts}
use Rattle.sq_tree.specs.declared.runs.RunEnd.{RunEnd}
use Rattle.sq_tree.specs.declared.runs.RunEnd.TheVariants.{Trapped as RunTrapped}
use Rattle.sq_tree.specs.Bank.{BankSeen, bytes_at, bytes_in, IsOpened}
use Rattle.sq_tree.specs.Runs.{HasRun, HasTrace, KeepsRoom, IsCut, TellsFirst}
use Rattle.sq_tree.specs.Trace.{event_line, trace_text}
use Rattle.sq_root.specs.Places.{KeepsOutside}
use Rattle.sq_orders.specs.declared.order.Chosen.{Chosen}
use Rattle.sq_orders.specs.Chosen.{chosen_held, chosen_answer, chosen_next}
use Rattle.sq_words.specs.Words as words
use Rattle.sq_words.specs.Words.{Way, Order, Command, order}
use Rattle.sq_report.specs.declared.trap.Trap.{Trap}
use Rattle.sq_driver.specs.declared.outside.end.End.{End}
use Rattle.sq_driver.specs.declared.outside.end.End.TheVariants.{Usage, Absent, FileFault, Refused, Trapped, NoMemory, SinkFault}
use Rattle.sq_driver.specs.Phases.{opens as opens_kind, text_of, text_or, inputs_of, phases, IsTold}
use Rattle.sq_driver.specs.Givens.{Given, Unfit}
use Rattle.sq_driver.specs.Orders.{ListHolds, HeldBy}
use Rattle.sq_driver.specs.Meaning.{AllPassed, Traps, done, trapped, IsCause, Means}
use Rattle.sq_driver.specs.Banks.{Writing, whole, cut_out, cut_err, IsOpenFor, IsUnperformed, IsUnrun, IsRun, trace_of, HasEnded, IsPrinted, ending_of, IsCutTrace, IsCutRun, PrintedFor, AfterDone, AfterTrap, AfterStop}
use Rattle.sq_driver.specs.Outcome.{Outside, Ended}
use Rattle.sq_driver.specs.Steps.{Stops, Stopped, WroteOut}
use Rattle.sq_driver.specs.Running.{Runner, command_by, HoldsOrdered, EndsAs, HasEnd, EndsByRuns, FillsRoot}
use Rattle.sq_driver.proofs.DataPhase.{all_with}
use Rattle.sq_driver.proofs.Running.{told_by}
use Rattle.sq_driver.proofs.Stopping.{is_there, phase_stops, gains_same}

-- what the words say of an order, by another spelling of what its list says
held_by : (way : Way) (P Q : List ℕ → Type 0) (held : List ℕ) → (P held → Q held) → HeldBy way P held
    → HeldBy way Q held
held_by words.first P Q held to is = is
held_by words.last P Q held to is = is
held_by (words.seed n) P Q held to is = is
held_by words.list P Q held to is = (is.0, to is.1)

some_same : {A : Type 0} (x y : A) → Some x ≡ Some y → x ≡ y
some_same x y is = cc

ending_same : (trap : Trap) (cause : LeafTrap) (path : List ℕ)
    → trap ≡ record { kind = cause.kind; place = cause.place; path = path }
    → ◌≡◌ {A = Option (Ending LeafTrap)} (Some (record { path = path; cause = cause })) (ending_of trap)
ending_same trap cause path same = cc

not_closed : {A : Type 0} (b : Bool) → b ≡ true → b ≡ false → A
not_closed b opened closed = absurd (let both : true ≡ false = sym opened ∙ closed in cc)

-- ---- the trace

pub trace_put : (traced : Bool) (plan : Plan) (es : List Event) (err now_err : Option (List ℕ)) (faults now_faults : ℕ)
    → (traced ≡ true → HasTrace plan err now_err faults now_faults false es)
    → (traced ≡ false → (now_err ≡ err) × (now_faults ≡ faults))
    → Gains err now_err (if traced then trace_text plan es else []) × (now_faults ≡ faults)
trace_put true plan es err now_err faults now_faults has none = (has refl).whole refl
trace_put false plan es err now_err faults now_faults has none =
    (gains_same err now_err [] (none refl).0 refl, (none refl).1)

-- a trace that stops the run was asked for
pub must_be : (traced : Bool) → (traced ≡ false → true ≡ false) → traced ≡ true
must_be true unless = refl
must_be false unless = absurd (let both : true ≡ false = unless refl in cc)

take_all : (xs : List ℕ) → take (length xs) xs ≡ xs
take_all [] = refl
take_all (x ∷ xs) = ap (λ (l : List ℕ). x ∷ l) (take_all xs)

-- ---- the bank is open

module _ (its : Runner) (d : List ℕ) (said : Order) (traced : Bool) (start : Outside) (f : PlanFile) (o : Chosen)
    (h : HoldsOrdered its d said traced start.told f (chosen_held o)) where
  abbrev command : Command
  command = command_by its d said traced

  its_told : (c : Content) → IsTold command start.told c → start.told ≡ Some c
  its_told c is = told_by its d said traced start.told c is

  listed : (c : Content) → inputs_of c command order ≡ text_of c said.file
  listed c = ap (λ (own : Option (List ℕ)). text_or own c said.file) (h.work.own order)

  split : phases its.kind ≡ (h.work.before ++ OrderPhase ∷ []) ++ Input ∷ []
  split = h.work.split ∙ sym (append_assoc h.work.before (OrderPhase ∷ []) (Input ∷ []))

  module _ (opened filled : BankSeen) (opens : IsOpened f.plan start.bank opened)
      (keeps : KeepsOutside (read_places f.plan f.arrays) opened filled)
      (zero : IsStart f.plan f.arrays filled.nodes) where
    open_for : IsOpenFor command start.told f start.bank filled
    open_for = record {
      once = keeps.openings ∙ opens.openings;
      is = keeps.plan ∙ opens.plan;
      work = h.work.work;
    }

    unperformed : IsUnperformed f.plan filled
    unperformed = record {
      events = λ es is. opens.events es (sym keeps.events ∙ is);
      counts = keeps.counts ∙ opens.counts;
      edges = keeps.edges ∙ opens.edges;
    }

    unrun : IsUnrun command start.told start.bank filled
    unrun = record { file = f; opened = open_for; none = unperformed; zero = zero }

    -- the data stops it
    pub input_stops : (end : End) → FillsRoot (wants_of f.arrays) (read_places f.plan f.arrays) start.told d filled
        (Err end) → Stopped command start.told start.bank filled end
    input_stops end stops = phase_stops command start.told Input (λ c g. Unfit (wants_of f.arrays) (c d) g)
        start.bank filled its_told
        (λ c is. record {
          before = h.work.before ++ OrderPhase ∷ [];
          after = [];
          split = split;
          passed = h.passed c (its_told c is);
        })
        (λ c is g bad. (h.work.meets c is).unfit g bad)
        (subst (λ (b : Bool). AfterStop b command start.told start.bank filled) (sym h.work.opens) unrun)
        (λ closed. not_closed _ h.work.opens closed) end
        (subst (λ (b : Bool). Stops b Input start.told (Some d) (λ c g. Unfit (wants_of f.arrays) (c d) g) end)
        (sym h.work.opens) stops)

    -- ---- the data is read

    module _ (read : (c : Content) → start.told ≡ Some c
        → Given (wants_of f.arrays) (c d) (read_parts f.plan f.arrays filled.nodes))
        (last : Outside) (result : Result (Unit {0}) RunEnd)
        (sizes : map length last.bank.nodes ≡ map length filled.nodes)
        (tells : TellsFirst f.plan (bytes_in filled.nodes) (bytes_in last.bank.nodes) result)
        (left : Option (List ℕ)) (rest : Rest LeafTrap) (room : KeepsRoom f.plan (bytes_in filled.nodes)) where
      by_runs : (c : Content) → start.told ≡ Some c
          → EndsByRuns its.kind said.way (inputs_of c command) f filled.nodes
      by_runs c is = (h.work.meets c is).ends filled.nodes zero (read c is)

      all : (c : Content) → start.told ≡ Some c → AllPassed command c (phases its.kind)
      all c is = subst (λ (l : List Phase). AllPassed command c l) (sym split)
          (all_with command c (h.work.before ++ OrderPhase ∷ []) Input (h.passed c is) (record {
            there = is_there c d (read c is).bytes (read c is).there;
            no_fault = (by_runs c is).fit;
          }))

      abbrev text : List ℕ
      text = root_text f.plan f.arrays (bytes_at last.bank.nodes 0)

      ends_as : (c : Content) → start.told ≡ Some c → EndsAs its.kind said.way (inputs_of c command) text result
      ends_as c is = (by_runs c is).tells last.bank.nodes sizes result tells

      module _ (Traced : List Event → Type 0)
          (ran : HasRun chosen_answer chosen_next (Some (chosen_held o)) left f.plan filled last.bank rest Traced) where
        -- the run, whatever is said of its events
        abbrev run_with : (Said : Plan → List Event → Type 0) → Said f.plan ran.events
            → (Over : Rest LeafTrap → Type 0) → Over rest
            → IsRun command start.told Said Over start.bank last.bank
        run_with Said its_said Over over = record {
          file = f;
          start = filled;
          opened = open_for;
          none = unperformed;
          zero = zero;
          read = λ c is. read c (its_told c is);
          held = chosen_held o;
          order_is = held_by said.way (λ held. (c : Content) → start.told ≡ Some c → ListHolds (text_of c said.file) held)
              (λ held. (c : Content) → IsTold command start.told c → ListHolds (inputs_of c command order) held)
              (chosen_held o) (λ has c is. subst (λ (l : Option (List ℕ)). ListHolds l (chosen_held o)) (sym (listed c))
              (has c (its_told c is))) h.order_is;
          left = left;
          rest = rest;
          ran = record {
            picks = ran.picks;
            events = ran.events;
            comes = ran.comes;
            under = ran.under;
            performed = ran.performed;
            traced = its_said;
          };
          room = room;
          over = over;
        }

        abbrev trace : List ℕ
        trace = if traced then trace_text f.plan ran.events else []

        after_done : (writing : Writing) (out : List ℕ) (put : List ℕ)
            → PrintedFor command start.told writing out put start.bank last.bank
            → AfterDone (opens_kind its.kind) command start.told writing out put start.bank last.bank
        after_done writing out put printed = subst
            (λ (b : Bool). AfterDone b command start.told writing out put start.bank last.bank) (sym h.work.opens) printed

        -- ---- it is over, and nothing trapped

        module _ (over : ready rest.left ≡ 0) where
          module _ (is_ok : result ≡ Ok tt) (unended : rest.ended ≡ None) where
            printed : IsPrinted command start.told text trace start.bank last.bank
            printed = record {
              run = run_with (λ q es. trace ≡ trace_of command q es) refl (HasEnded None) (over, unended);
              prints = sym (h.work.shows text);
            }

            gives : (c : Content) → start.told ≡ Some c → EndsAs its.kind said.way (inputs_of c command) text (Ok tt)
            gives c is = subst (λ (x : Result (Unit {0}) RunEnd). EndsAs its.kind said.way (inputs_of c command) text x)
                is_ok (ends_as c is)

            done_means : Means command start.told (done text trace)
            done_means = record {
              names = tt;
              cause = λ c at. let is = its_told c at in (all c is, (gives c is).0, (gives c is).1);
            }

            -- its arrays are written, whole or not
            pub done_ended : (wrote : Result (Unit {0}) End) → WroteOut start.out last.out start.out_faults
                last.out_faults text wrote
                → Gains start.err last.err trace × (last.err_faults ≡ start.err_faults)
                → Ended command start last wrote
            done_ended (Ok tt) wrote put = record {
              answer = done text trace;
              writing = whole;
              means = done_means;
              result_is = tt;
              puts = record { out = wrote.0; err = put.0; out_faults = wrote.1; err_faults = put.1 };
              bank_after = after_done whole text trace printed;
            }
            done_ended (Err Usage) wrote put = absurd wrote
            done_ended (Err (Absent name)) wrote put = absurd wrote
            done_ended (Err (FileFault name)) wrote put = absurd wrote
            done_ended (Err (Refused g)) wrote put = absurd wrote
            done_ended (Err (Trapped trap)) wrote put = absurd wrote
            done_ended (Err NoMemory) wrote put = absurd wrote
            done_ended (Err SinkFault) wrote put = record {
              answer = done text trace;
              writing = cut_out;
              means = done_means;
              result_is = refl;
              puts = record {
                done = tt;
                out = wrote.0;
                err = put.0;
                out_later = wrote.2;
                out_faults = wrote.1;
                err_faults = put.1;
              };
              bank_after = after_done cut_out text trace printed;
            }

          -- ---- it is over, and something trapped

          module _ (cause : LeafTrap) (path : List ℕ) (is_trap : result ≡ Err (RunTrapped cause path)) where
            traps : (c : Content) → start.told ≡ Some c → Traps its.kind (inputs_of c command)
                (record { kind = cause.kind; place = cause.place; path = path })
            traps c is = subst (λ (x : Result (Unit {0}) RunEnd). EndsAs its.kind said.way (inputs_of c command) text x)
                is_trap (ends_as c is)

            pub trap_ended : (trap : Trap) → trap ≡ record { kind = cause.kind; place = cause.place; path = path }
                → rest.ended ≡ Some (record { path = path; cause = cause }) → last.out ≡ start.out
                → last.out_faults ≡ start.out_faults
                → Gains start.err last.err trace × (last.err_faults ≡ start.err_faults)
                → Ended command start last (Err (Trapped trap))
            trap_ended trap same ended out out_faults put = record {
              answer = trapped trap trace;
              writing = whole;
              means = record {
                names = tt;
                cause = λ c at. let is = its_told c at in (
                  all c is,
                  subst (λ (t : Trap). Traps its.kind (inputs_of c command) t) (sym same) (traps c is),
                );
              };
              result_is = (trace, refl);
              puts = record {
                out = gains_same start.out last.out [] out refl;
                err = put.0;
                out_faults = out_faults;
                err_faults = put.1;
              };
              bank_after = subst (λ (b : Bool). AfterTrap b command start.told whole trap trace start.bank last.bank)
                  (sym h.work.opens)
                  (run_with (λ q es. trace ≡ trace_of command q es) refl (HasEnded (ending_of trap))
                  (over, ended ∙ ending_same trap cause path same));
            }

        -- ---- a put of its trace failed

        module _ (was_traced : traced ≡ true) (cut : IsCut f.plan ran.events start.err last.err)
            (rose : Rose start.err_faults last.err_faults)
            (later : start.err_faults ≤ last.err_faults) (out : last.out ≡ start.out)
            (out_faults : last.out_faults ≡ start.out_faults) where
          abbrev got : List ℕ
          got = trace_text f.plan cut.before ++ take cut.count (event_line f.plan cut.last)

          cut_run : IsCutRun command start.told got start.bank last.bank
          cut_run = record {
            traced = was_traced;
            run = run_with (λ q es. IsCutTrace q es got)
                (record { before = cut.before; last = cut.last; is = cut.is; count = cut.count; text = refl })
                (λ q. Unit {0}) tt;
          }

          -- the answer that the data asks for, which was cut
          cut_done : (written : List ℕ) → Means command start.told (done written got)
              → Ended command start last (Err SinkFault)
          cut_done written means = record {
            answer = done written got;
            writing = cut_err got;
            means = means;
            result_is = (refl, tt);
            puts = record {
              out = gains_same start.out last.out [] out refl;
              count = length got;
              prefix = sym (take_all got);
              err = cut.gains;
              out_faults = out_faults;
              err_later = later;
              err_faults = rose;
            };
            bank_after = after_done (cut_err got) written got cut_run;
          }

          cut_trapped : (trap : Trap) → Means command start.told (trapped trap got)
              → Ended command start last (Err SinkFault)
          cut_trapped trap means = record {
            answer = trapped trap got;
            writing = cut_err got;
            means = means;
            result_is = (refl, tt);
            puts = record {
              out = gains_same start.out last.out [] out refl;
              count = length got;
              prefix = sym (take_all got);
              err = cut.gains;
              out_faults = out_faults;
              err_later = later;
              err_faults = rose;
            };
            bank_after = subst
                (λ (b : Bool). AfterTrap b command start.told (cut_err got) trap got start.bank last.bank)
                (sym h.work.opens) (inl cut_run);
          }

          -- by what it means, where the files tell what they hold
          by_end : (c : Content) → start.told ≡ Some c → HasEnd its.kind said.way (inputs_of c command)
              → Ended command start last (Err SinkFault)
          by_end c is (inl gives) = cut_done gives.0 (record {
            names = tt;
            cause = λ b at. subst (λ (x : Content). IsCause command x (done gives.0 got))
                (some_same c b (sym is ∙ its_told b at)) (all c is, gives.1, gives.2);
          })
          by_end c is (inr traps) = cut_trapped traps.0 (record {
            names = tt;
            cause = λ b at. subst (λ (x : Content). IsCause command x (trapped traps.0 got))
                (some_same c b (sym is ∙ its_told b at)) (all c is, traps.1);
          })

          by_told : (t : Option Content) → start.told ≡ t → Ended command start last (Err SinkFault)
          by_told None none = cut_done [] (record {
            names = tt;
            cause = λ c at. absurd (let both : None ≡ Some c = sym none ∙ its_told c at in cc);
          })
          by_told (Some c) is = by_end c is (by_runs c is).has

          pub cut_ended : Ended command start last (Err SinkFault)
          cut_ended = by_told start.told refl
