-- The phase cost, behind those from program to capacity, and how `span` ends.
use Rattle.std.proofs.Common.{◌≡◌, inl, inr, ℕ, List, [], ◌∷◌, false, Option, Some, Result, Ok, Err, refl, subst}
use Rattle.sq_port.specs.Ports.{Content}
use Rattle.sq_text.specs.declared.code.Phase.TheVariants.{Program, Types, Machine, Mapping, Resolve, Race, Capacity, Cost as CostPhase}
use Rattle.sq_text.specs.declared.fault.Fault.{Fault}
use Rattle.sq_machfile.specs.Machines.{Hierarchy}
use Rattle.sq_costs.specs.declared.cost.Cost.{Cost}
use Rattle.sq_ir.specs.declared.plan.Plan.{Plan}
use Rattle.sq_spec.specs.declared.resolved.Resolved.{Resolved}
use Rattle.sq_compile.specs.Compiled.{PlansAreOne}
use Rattle.sq_span.specs.Spans.{EventsFault}
use Rattle.sq_span_text.specs.Text.{span_text}
use Rattle.sq_tree.specs.Bank.{BankSeen}
use Rattle.sq_words.specs.declared.words.Kind.TheVariants as kind
use Rattle.sq_words.specs.Words.{span_of}
use Rattle.sq_driver.specs.declared.outside.end.End.{End}
use Rattle.sq_driver.specs.declared.outside.end.End.TheVariants.{Usage, Absent, FileFault, Refused, Trapped, NoMemory, SinkFault}
use Rattle.sq_driver.specs.Phases.{inputs_of, IsTold}
use Rattle.sq_driver.specs.Holding.{Holds}
use Rattle.sq_driver.specs.Sources.{Sources}
use Rattle.sq_driver.specs.Costing.{IsFirstCostFault, Costed, IsFirstOfCost}
use Rattle.sq_driver.specs.Chosen.{ReadsCosts, WroteChain, SpansTo}
use Rattle.sq_driver.specs.Meaning.{Passed, AllPassed, done, IsCause}
use Rattle.sq_driver.specs.Planned.{IsOnPlan, HoldsPlan}
use Rattle.sq_driver.specs.Steps.{Stops, Stopped}
use Rattle.sq_driver.specs.Evaluating.{Evaluates}
use Rattle.sq_driver.specs.SharedFiles.{ReadsSources}
use Rattle.sq_driver.proofs.Stopping.{phase_stops, memory_stops, is_there}
use Rattle.sq_driver.proofs.SourcePhases.{one, sources}
use Rattle.sq_driver.proofs.Evaluations.{stops}
use Rattle.sq_driver.proofs.Planning.{plan_names, same_plan, written}

abbrev pub reads_span : ReadsSources kind.Span
reads_span = record { rest = Capacity ∷ CostPhase ∷ []; split = refl; fixed = refl; sourced = refl }

pub on_span : (p m k f : List ℕ) → IsOnPlan (span_of p m k f) (plan_names p m k)
on_span p m k f = record { begun = reads_span; rest = CostPhase ∷ []; next = refl; named = refl; closed = refl }

with_last : (p m k f : List ℕ) (c : Content) → AllPassed (span_of p m k f) c
    (Program ∷ Types ∷ Machine ∷ Mapping ∷ Resolve ∷ Race ∷ Capacity ∷ []) → Passed (span_of p m k f) c CostPhase
    → AllPassed (span_of p m k f) c
    (Program ∷ Types ∷ Machine ∷ Mapping ∷ Resolve ∷ Race ∷ Capacity ∷ CostPhase ∷ [])
with_last p m k f c b last =
    (b.0, (b.1.0, (b.1.1.0, (b.1.1.1.0, (b.1.1.1.1.0, (b.1.1.1.1.1.0, (b.1.1.1.1.1.1.0, (last, tt))))))))

module _ (p m k f : List ℕ) (told : Option Content) (r : Resolved) (plan : Plan)
    (holds : HoldsPlan (span_of p m k f) (plan_names p m k) told r plan) where
  its_told : (c : Content) → IsTold (span_of p m k f) told c → told ≡ Some c
  its_told c = one (span_of p m k f) reads_span p m k told c

  abbrev its_sources : (c : Content) → told ≡ Some c → Sources (inputs_of c (span_of p m k f))
  its_sources c is = sources (span_of p m k f) reads_span p m k told r.typed.now r.machine.now r.mapping.now holds.held
      c is

  -- a fault of the phase stops the command
  cost_stops : (Fails : Content → Fault → Type 0)
      → ((c : Content) → told ≡ Some c → (its : Fault) → Fails c its → IsFirstOfCost (inputs_of c (span_of p m k f)) its)
      → (bank : BankSeen) (end : End) → Stops false CostPhase told (Some f) Fails end → Stopped (span_of p m k f) told bank bank end
  cost_stops Fails faulty bank end stop = phase_stops (span_of p m k f) told CostPhase Fails bank bank its_told
      (λ c is. record {
        before = Program ∷ Types ∷ Machine ∷ Mapping ∷ Resolve ∷ Race ∷ Capacity ∷ [];
        after = [];
        split = refl;
        passed = holds.passed c (its_told c is);
      })
      faulty refl (λ closed. refl) end stop

  pub costs_end : (out : Option (List ℕ)) (faults : ℕ) (end : End) → ReadsCosts r.machine.now.levels told f (Err end)
      → Evaluates (span_of p m k f) told out out faults faults (Err end)
  costs_end out faults end reads = stops (span_of p m k f) told out faults end
      (λ bank. cost_stops (λ c its. Holds (IsFirstCostFault r.machine.now.levels) (c f) its)
      (λ c is its fails. inl (record {
        hierarchy = r.machine.now;
        machine_is = (holds.held.machine.held c is).one.holds;
        first = fails;
      })) bank end reads)

  module _ (costs : List Cost) (reads : ReadsCosts r.machine.now.levels told f (Ok costs)) where
    abbrev costed : (c : Content) → told ≡ Some c → Costed (inputs_of c (span_of p m k f))
    costed c is = record {
      forms = r;
      its = record { sources = its_sources c is; are = holds.are };
      plan = plan;
      plan_is = holds.plan_is;
      costs = costs;
      costs_are = (reads c is).one.holds;
    }

    events_stop : (bank : BankSeen) (its : Fault) → EventsFault plan its
        → Stopped (span_of p m k f) told bank bank (Refused its)
    events_stop bank its many = cost_stops (λ c g. EventsFault plan g)
        (λ c is g fault. inr (record { costed = costed c is; many = fault })) bank (Refused its) (λ c is. many)

    module _ (law : PlansAreOne) (few : (its : Fault) → EventsFault plan its → ⊥) where
      no_fault : (c : Content) → told ≡ Some c → (its : Fault) → IsFirstOfCost (inputs_of c (span_of p m k f)) its → ⊥
      no_fault c is its (inl first) = (reads c is).no_fault its (
        first.first.0,
        first.first.1,
        subst (λ (h : Hierarchy). IsFirstCostFault h.levels first.first.0 its)
            ((holds.held.machine.held c is).one.only first.hierarchy first.machine_is) first.first.2,
      )
      no_fault c is its (inr many) = few its (subst (λ (q : Plan). EventsFault q its)
          (same_plan (span_of p m k f) reads_span p m k told r holds.are holds.held law plan holds.plan_is c is
          many.costed.its.sources many.costed.forms many.costed.its.are many.costed.plan many.costed.plan_is) many.many)

      cost_passed : (c : Content) → told ≡ Some c → Passed (span_of p m k f) c CostPhase
      cost_passed c is = record {
        there = is_there c f (reads c is).one.holds.0 (reads c is).one.holds.1;
        no_fault = no_fault c is;
      }

      chain_cause : (out now_out : Option (List ℕ)) (faults now_faults : ℕ) (result : Result (Unit {0}) End)
          (wrote : WroteChain plan costs out now_out faults now_faults result) (c : Content) → told ≡ Some c
          → IsCause (span_of p m k f) c (done (span_text plan wrote.span) [])
      chain_cause out now_out faults now_faults result wrote c is = (
        with_last p m k f c (holds.passed c is) (cost_passed c is),
        record { costed = costed c is; span = wrote.span; is = wrote.is; heaviest = wrote.heaviest; text = refl },
        λ trap no. no,
      )

    module _ (law : PlansAreOne) (out now_out : Option (List ℕ)) (faults now_faults : ℕ) where
      chain_written : (result : Result (Unit {0}) End) → WroteChain plan costs out now_out faults now_faults result
          → Evaluates (span_of p m k f) told out now_out faults now_faults result
      chain_written result wrote = written (span_of p m k f) told out faults (span_text plan wrote.span)
          (chain_cause law wrote.few out now_out faults now_faults result wrote) now_out now_faults result wrote.wrote

      pub chain_ends : (result : Result (Unit {0}) End) → SpansTo plan costs out now_out faults now_faults result
          → Evaluates (span_of p m k f) told out now_out faults now_faults result
      chain_ends (Ok value) wrote = chain_written (Ok value) wrote
      chain_ends (Err (Refused its)) ends = inr (record {
        out_is = ends.1;
        faults_is = ends.2;
        stopped = λ bank. events_stop bank its ends.0;
      })
      chain_ends (Err NoMemory) ends = inr (record {
        out_is = ends.0;
        faults_is = ends.1;
        stopped = λ bank. memory_stops (span_of p m k f) told bank bank refl;
      })
      chain_ends (Err Usage) wrote = chain_written (Err Usage) wrote
      chain_ends (Err (Absent name)) wrote = chain_written (Err (Absent name)) wrote
      chain_ends (Err (FileFault name)) wrote = chain_written (Err (FileFault name)) wrote
      chain_ends (Err (Trapped trap)) wrote = chain_written (Err (Trapped trap)) wrote
      chain_ends (Err SinkFault) wrote = chain_written (Err SinkFault) wrote
