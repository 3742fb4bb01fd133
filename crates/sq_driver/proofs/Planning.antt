-- How commands on the plan of a program end.
use Rattle.std.proofs.Common.{◌≡◌, inl, inr, ℕ, List, [], ◌∷◌, Option, Some, None, Result, Ok, Err, IfOk, refl, sym, ap, ◌∙◌, subst}
use Rattle.sq_port.specs.Ports.{Content}
use Rattle.sq_text.specs.declared.code.Phase.TheVariants.{Program, Types, Machine, Mapping, Resolve, Race, Capacity}
use Rattle.sq_ir.specs.declared.plan.Plan.{Plan}
use Rattle.sq_ast.specs.declared.program.Program.{Program as Tree}
use Rattle.sq_mapping.specs.declared.mapping.Mapping.{Mapping as Mapped}
use Rattle.sq_machfile.specs.Machines.{Hierarchy}
use Rattle.sq_spec.specs.declared.resolved.Resolved.{Resolved}
use Rattle.sq_spec.specs.Works.{found_in}
use Rattle.sq_forms.specs.Resolving.{Resolving}
use Rattle.sq_race.specs.Race.{IsFirstRace}
use Rattle.sq_compile.specs.Capacity.{NoneLacks, LacksAreOne}
use Rattle.sq_compile.specs.Compiled.{IsPlanOf, PlansAreOne}
use Rattle.sq_report.specs.declared.totals.Totals.{Totals}
use Rattle.sq_report.specs.Figures.{figures, IsSummed}
use Rattle.sq_report.specs.Reports.{report}
use Rattle.sq_words.specs.declared.words.Kind.TheVariants as kind
use Rattle.sq_words.specs.Words.{Command, plan_of}
use Rattle.sq_driver.specs.declared.outside.end.End.{End}
use Rattle.sq_driver.specs.declared.outside.end.End.TheVariants.{Usage, Absent, FileFault, Refused, Trapped, NoMemory, SinkFault}
use Rattle.sq_driver.specs.Phases.{inputs_of, IsTold}
use Rattle.sq_driver.specs.Sources.{Sources}
use Rattle.sq_driver.specs.Races.{IsResolved}
use Rattle.sq_driver.specs.Capacity.{IsFirstCapacityFault}
use Rattle.sq_driver.specs.Meaning.{AllPassed, done, IsCause}
use Rattle.sq_driver.specs.Outcome.{Outside, Ended}
use Rattle.sq_driver.specs.Planned.{Names, IsOnPlan, HoldsPlan}
use Rattle.sq_driver.specs.Steps.{WroteOut, WroteOutOrLacked, Stopped}
use Rattle.sq_driver.specs.Evaluating.{EndsWith, HoldsSources, Evaluates}
use Rattle.sq_driver.specs.SharedFiles.{ReadsSources, command_with, StopsSources}
use Rattle.sq_driver.proofs.SourcePhases.{ok_same, one, sources, only, walk_same}
use Rattle.sq_driver.proofs.CapacityPhase.{capacity_ends, seven}
use Rattle.sq_driver.proofs.Evaluations.{stops, closed_ends}
use Rattle.sq_driver.proofs.Stopping.{memory_stops}

-- ---- whichever the command is

-- the same of equal names
pub stops_named : (told : Option Content) (names that : Names) (end : End) → that ≡ names
    → StopsSources told that.program that.mapping that.machine end
    → StopsSources told names.program names.mapping names.machine end
stops_named told names that end same stopped =
    subst (λ (n : Names). StopsSources told n.program n.mapping n.machine end) same stopped

pub holds_named : (told : Option Content) (names that : Names) (tree : Tree) (hierarchy : Hierarchy) (mapped : Mapped)
    → that ≡ names → HoldsSources told that.program that.mapping that.machine tree hierarchy mapped
    → HoldsSources told names.program names.mapping names.machine tree hierarchy mapped
holds_named told names that tree hierarchy mapped same held =
    subst (λ (n : Names). HoldsSources told n.program n.mapping n.machine tree hierarchy mapped) same held

module _ (its : Command) (names : Names) (on : IsOnPlan its names) where
  pub its_told : (told : Option Content) (c : Content) → IsTold its told c → told ≡ Some c
  its_told told c is = one its on.begun names.program names.mapping names.machine told c
      (subst (λ (x : Command). IsTold x told c) on.named is)

  pub on_plan_ends : (old now : Outside) → now.err ≡ old.err → now.err_faults ≡ old.err_faults → now.bank ≡ old.bank
      → (result : Result (Unit {0}) End)
      → Evaluates its old.told old.out now.out old.out_faults now.out_faults result → Ended its old now result
  on_plan_ends old now err err_faults bank =
      closed_ends its old now (its_told old.told) on.closed err err_faults bank

  module _ (told : Option Content) (out : Option (List ℕ)) (faults : ℕ) where
    pub sources_end : (end : End) → StopsSources told names.program names.mapping names.machine end
        → Evaluates its told out out faults faults (Err end)
    sources_end end stopped = stops its told out faults end
        (λ bank. subst (λ (x : Command). Stopped x told bank bank end) (sym on.named) (stopped its on.begun bank))

    module _ (r : Resolved) (are : IsResolved r.typed.now r.machine.now r.mapping.now r)
        (held : HoldsSources told names.program names.mapping names.machine r.typed.now r.machine.now r.mapping.now)
        (free : IsFirstRace r None) where
      pub capacity_end : (end : End) → EndsWith (IsFirstCapacityFault r) end
          → Evaluates its told out out faults faults (Err end)
      capacity_end end ends = stops its told out faults end
          (λ bank. subst (λ (x : Command). Stopped x told bank bank end) (sym on.named)
          (capacity_ends its on.begun on.rest on.next names.program names.mapping names.machine told r.typed.now
          r.machine.now r.mapping.now held r are free bank end ends))

  pub plan_held : (told : Option Content) (r : Resolved) → IsResolved r.typed.now r.machine.now r.mapping.now r
      → HoldsSources told names.program names.mapping names.machine r.typed.now r.machine.now r.mapping.now
      → IsFirstRace r None → LacksAreOne → NoneLacks r → (plan : Plan) → IsPlanOf r plan
      → HoldsPlan its names told r plan
  plan_held told r are held free law none plan plan_is = record {
    are = are;
    held = held;
    passed = λ c is. subst (λ (x : Command). AllPassed x c
        (Program ∷ Types ∷ Machine ∷ Mapping ∷ Resolve ∷ Race ∷ Capacity ∷ [])) (sym on.named)
        (seven its on.begun on.rest on.next names.program names.mapping names.machine told r.typed.now
        r.machine.now r.mapping.now held r are free law none c is);
    plan_is = plan_is;
  }

-- the plan of forms that are found again is this one
module _ (its : Command) (begun : ReadsSources its.kind) (p m k : List ℕ) (told : Option Content) (r : Resolved)
    (are : IsResolved r.typed.now r.machine.now r.mapping.now r)
    (held : HoldsSources told p m k r.typed.now r.machine.now r.mapping.now) (law : PlansAreOne) where
  pub same_plan : (plan : Plan) → IsPlanOf r plan → (c : Content) → told ≡ Some c
      → (that : Sources (inputs_of c (command_with its p m k))) (s : Resolved)
      → IsResolved that.tree that.hierarchy that.mapped s → (q : Plan) → IsPlanOf s q → q ≡ plan
  same_plan plan plan_is c is that s found q its_plan =
      let equal = only its begun p m k told r.typed.now r.machine.now r.mapping.now held c is that in
      let walked = walk_same its begun p m k told r.typed.now r.machine.now r.mapping.now held c is that in
      let left : found.forms.left ≡ are.forms.left = ok_same found.forms.left are.forms.left
      (sym found.forms.through ∙ (walked ∙ are.forms.through)) in
      law s r (found.tree_is ∙ equal.tree_is) (found.mapping_is ∙ equal.mapping_is) (found.machine_is ∙ equal.machine_is)
      (sym found.forms.are ∙ (ap (λ (l : Resolving). l.forms) left ∙ are.forms.are))
      (sym found.found ∙ (ap found_in walked ∙ are.found))
      q plan its_plan plan_is

-- ---- a text that was written

module _ (its : Command) (told : Option Content) (out : Option (List ℕ)) (faults : ℕ) (text : List ℕ)
    (cause : (c : Content) → told ≡ Some c → IsCause its c (done text [])) where
  pub written : (now_out : Option (List ℕ)) (now_faults : ℕ) (result : Result (Unit {0}) End)
      → WroteOut out now_out faults now_faults text result → Evaluates its told out now_out faults now_faults result
  written now_out now_faults (Ok tt) wrote =
      record { text = text; cause = cause; gained = wrote.0; same = wrote.1 }
  written now_out now_faults (Err Usage) wrote = absurd wrote
  written now_out now_faults (Err (Absent name)) wrote = absurd wrote
  written now_out now_faults (Err (FileFault name)) wrote = absurd wrote
  written now_out now_faults (Err (Refused f)) wrote = absurd wrote
  written now_out now_faults (Err (Trapped trap)) wrote = absurd wrote
  written now_out now_faults (Err NoMemory) wrote = absurd wrote
  written now_out now_faults (Err SinkFault) wrote = inl (record {
    end_is = refl;
    text = text;
    cause = cause;
    gained = wrote.0;
    rose = wrote.1;
    later = wrote.2;
  })

  pub written_or_lacked : (now_out : Option (List ℕ)) (now_faults : ℕ) (result : Result (Unit {0}) End)
      → WroteOutOrLacked out now_out faults now_faults text result
      → Evaluates its told out now_out faults now_faults result
  written_or_lacked now_out now_faults (Err NoMemory) wrote = inr (record {
    out_is = wrote.0;
    faults_is = wrote.1;
    stopped = λ bank. memory_stops its told bank bank refl;
  })
  written_or_lacked now_out now_faults (Ok tt) wrote = written now_out now_faults (Ok tt) wrote
  written_or_lacked now_out now_faults (Err Usage) wrote = absurd wrote
  written_or_lacked now_out now_faults (Err (Absent name)) wrote = absurd wrote
  written_or_lacked now_out now_faults (Err (FileFault name)) wrote = absurd wrote
  written_or_lacked now_out now_faults (Err (Refused f)) wrote = absurd wrote
  written_or_lacked now_out now_faults (Err (Trapped trap)) wrote = absurd wrote
  written_or_lacked now_out now_faults (Err SinkFault) wrote = written now_out now_faults (Err SinkFault) wrote

-- ---- the command `plan`

abbrev pub reads_plan : ReadsSources kind.Plan
reads_plan = record { rest = Capacity ∷ []; split = refl; fixed = refl; sourced = refl }

abbrev pub plan_names : (p m k : List ℕ) → Names
plan_names p m k = record { program = p; mapping = m; machine = k }

pub on_plan : (p m k : List ℕ) → IsOnPlan (plan_of p m k) (plan_names p m k)
on_plan p m k = record { begun = reads_plan; rest = []; next = refl; named = refl; closed = refl }

pub reported : (p m k : List ℕ) (told : Option Content) (r : Resolved) (plan : Plan)
    → HoldsPlan (plan_of p m k) (plan_names p m k) told r plan
    → (c : Content) → told ≡ Some c → IsCause (plan_of p m k) c (done (report r.machine.now plan) [])
reported p m k told r plan holds c is = (
  holds.passed c is,
  record {
    forms = r;
    its = record {
      sources = sources (plan_of p m k) reads_plan p m k told r.typed.now r.machine.now r.mapping.now holds.held c is;
      are = holds.are;
    };
    plan = plan;
    plan_is = holds.plan_is;
    text = refl;
  },
  λ trap no. no,
)

-- the sums of a plan on a machine, by another spelling of the machine
pub totals_are : {E : Type 0} (r : Result Totals E) (m n : Hierarchy) (p : Plan) → IsSummed p → m ≡ n
    → IfOk r (λ t. IsSummed p → t ≡ figures m p) → IfOk r (λ t. t ≡ figures n p)
totals_are (Ok t) m n p summed same are = are summed ∙ ap (λ (h : Hierarchy). figures h p) same
totals_are (Err e) m n p summed same are = tt
