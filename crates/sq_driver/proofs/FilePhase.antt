-- The phase of plan files of `compile`, behind those from program to capacity, and how it ends.
use Rattle.std.proofs.Common.{◌≡◌, inr, ℕ, List, [], ◌∷◌, Option, Some, None, Result, Ok, Err, IfOk, refl, sym, ap, ap₂, ◌∙◌, subst}
use Rattle.sq_port.specs.Ports.{Content}
use Rattle.sq_text.specs.declared.code.Phase.TheVariants.{Program, Types, Machine, Mapping, Resolve, Race, Capacity, Plan as PlanPhase}
use Rattle.sq_text.specs.declared.fault.Fault.{Fault}
use Rattle.sq_text.specs.Faults.{IsFirst}
use Rattle.sq_ast.specs.declared.program.Param.{Param}
use Rattle.sq_ast.specs.declared.program.Program.{Program as Tree}
use Rattle.sq_mapping.specs.declared.mapping.Mapping.{Mapping as Mapped}
use Rattle.sq_forms.specs.Resolving.{entry_extents}
use Rattle.sq_ir.specs.declared.plan.Plan.{Plan}
use Rattle.sq_plantext.specs.Layout.{laid_out}
use Rattle.sq_planfile.specs.declared.entry.EntryArray.{EntryArray}
use Rattle.sq_planfile.specs.File.{PlanFile, entry_arrays}
use Rattle.sq_planfile.specs.Limits.{TextFault}
use Rattle.sq_planfile.specs.Written.{written}
use Rattle.sq_spec.specs.declared.resolved.Resolved.{Resolved}
use Rattle.sq_compile.specs.Compiled.{PlansAreOne}
use Rattle.sq_tree.specs.Bank.{BankSeen}
use Rattle.sq_words.specs.declared.words.Kind.TheVariants as kind
use Rattle.sq_words.specs.Words.{compile_of}
use Rattle.sq_driver.specs.declared.outside.end.End.{End}
use Rattle.sq_driver.specs.declared.outside.end.End.TheVariants.{Usage, Absent, FileFault, Refused, Trapped, NoMemory, SinkFault}
use Rattle.sq_driver.specs.Phases.{inputs_of, IsTold}
use Rattle.sq_driver.specs.Entry.{params_of}
use Rattle.sq_driver.specs.Filing.{AreArraysOf, IsFileOf, Filed}
use Rattle.sq_driver.specs.Chosen.{WroteFile, FilesTo}
use Rattle.sq_driver.specs.Meaning.{Passed, done, IsCause}
use Rattle.sq_driver.specs.Planned.{IsOnPlan, HoldsPlan}
use Rattle.sq_driver.specs.Steps.{Stopped}
use Rattle.sq_driver.specs.Evaluating.{Evaluates}
use Rattle.sq_driver.specs.SharedFiles.{ReadsSources}
use Rattle.sq_driver.proofs.Stopping.{phase_stops, memory_stops, no_file_there}
use Rattle.sq_driver.proofs.SourcePhases.{ok_same, one, sources, only}
use Rattle.sq_driver.proofs.Planning.{plan_names, same_plan, written as text_written}

abbrev pub reads_compile : ReadsSources kind.Compile
reads_compile = record { rest = Capacity ∷ PlanPhase ∷ []; split = refl; fixed = refl; sourced = refl }

pub on_compile : (p m k : List ℕ) → IsOnPlan (compile_of p m k) (plan_names p m k)
on_compile p m k = record { begun = reads_compile; rest = PlanPhase ∷ []; next = refl; named = refl; closed = refl }

pub arrays_are : {E : Type 0} (r : Resolved) (plan : Plan) (params : List Param) (dims : List (List ℕ))
    (buffers : List ℕ) (result : Result (List EntryArray) E) → params ≡ params_of r.typed.now r.mapping.now
    → entry_extents r.mapping.now.sizes (params_of r.typed.now r.mapping.now) ≡ Ok dims → buffers ≡ plan.draft.entry
    → IfOk result (λ arrays. arrays ≡ entry_arrays params dims buffers) → IfOk result (AreArraysOf r plan)
arrays_are r plan params dims buffers (Ok arrays) params_are fit same told = record {
  entry = record { extents = dims; are = fit };
  are = told ∙ (ap (λ (ps : List Param). entry_arrays ps dims buffers) params_are
      ∙ ap (λ (bs : List ℕ). entry_arrays (params_of r.typed.now r.mapping.now) dims bs) same);
}
arrays_are r plan params dims buffers (Err e) params_are fit same told = tt

-- the file of a plan is one
same_file : (r s : Resolved) (p q : Plan) (f g : PlanFile) → s.typed.now ≡ r.typed.now → s.mapping.now ≡ r.mapping.now
    → q ≡ p → IsFileOf r p f → IsFileOf s q g → g ≡ f
same_file r s p q f g trees maps plans its that =
    let mine = its.arrays.entry in
    let other = that.arrays.entry in
    let extents : other.extents ≡ mine.extents = ok_same other.extents mine.extents
    (sym other.are ∙ (ap (λ (t : Tree). entry_extents s.mapping.now.sizes (params_of t s.mapping.now)) trees
    ∙ (ap (λ (m : Mapped). entry_extents m.sizes (params_of r.typed.now m)) maps ∙ mine.are))) in
    let arrays : g.arrays ≡ f.arrays =
    that.arrays.are
    ∙ (ap (λ (t : Tree). entry_arrays (params_of t s.mapping.now) other.extents q.draft.entry) trees
    ∙ (ap (λ (m : Mapped). entry_arrays (params_of r.typed.now m) other.extents q.draft.entry) maps
    ∙ (ap₂ (λ (es : List (List ℕ)) (x : Plan). entry_arrays (params_of r.typed.now r.mapping.now) es x.draft.entry)
    extents plans ∙ sym its.arrays.are))) in
    let whole : g.plan ≡ f.plan = that.plan_is ∙ (plans ∙ sym its.plan_is) in
    ap₂ (λ (x : Plan) (xs : List EntryArray). record { plan = x; arrays = xs }) whole arrays

module _ (p m k : List ℕ) (told : Option Content) (r : Resolved) (plan : Plan)
    (holds : HoldsPlan (compile_of p m k) (plan_names p m k) told r plan) (file : PlanFile)
    (file_is : IsFileOf r plan file) where
  its_told : (c : Content) → IsTold (compile_of p m k) told c → told ≡ Some c
  its_told c = one (compile_of p m k) reads_compile p m k told c

  abbrev filed : (c : Content) → told ≡ Some c → Filed (inputs_of c (compile_of p m k))
  filed c is = record {
    forms = r;
    its = record {
      sources = sources (compile_of p m k) reads_compile p m k told r.typed.now r.machine.now r.mapping.now holds.held c
          is;
      are = holds.are;
    };
    plan = plan;
    plan_is = holds.plan_is;
    file = file;
    file_is = file_is;
  }

  file_stops : (bank : BankSeen) (its : Fault) → IsFirst (TextFault file) (Some its)
      → Stopped (compile_of p m k) told bank bank (Refused its)
  file_stops bank its first = phase_stops (compile_of p m k) told PlanPhase
      (λ c g. IsFirst (TextFault file) (Some g)) bank bank its_told
      (λ c is. record {
        before = Program ∷ Types ∷ Machine ∷ Mapping ∷ Resolve ∷ Race ∷ Capacity ∷ [];
        after = [];
        split = refl;
        passed = holds.passed c (its_told c is);
      })
      (λ c is g fault. record { filed = filed c is; first = fault })
      refl (λ closed. refl) (Refused its) (λ c is. first)

  module _ (law : PlansAreOne) where
    -- the file of forms that are found again is this one
    file_again : (c : Content) → told ≡ Some c → (that : Filed (inputs_of c (compile_of p m k))) → that.file ≡ file
    file_again c is that =
        let equal = only (compile_of p m k) reads_compile p m k told r.typed.now r.machine.now r.mapping.now holds.held c
        is that.its.sources in
        same_file r that.forms plan that.plan file that.file
        (that.its.are.tree_is ∙ equal.tree_is) (that.its.are.mapping_is ∙ equal.mapping_is)
        (same_plan (compile_of p m k) reads_compile p m k told r holds.are holds.held law plan holds.plan_is c is
        that.its.sources that.forms that.its.are that.plan that.plan_is)
        file_is that.file_is

    module _ (fits : IsFirst (TextFault file) None) where
      file_passed : (c : Content) → told ≡ Some c → Passed (compile_of p m k) c PlanPhase
      file_passed c is = record {
        there = no_file_there c;
        no_fault = λ f first. fits f (subst (λ (x : PlanFile). TextFault x f) (file_again c is first.filed)
            first.first.0);
      }

      text_cause : (c : Content) → told ≡ Some c → IsCause (compile_of p m k) c (done (laid_out (written file)) [])
      text_cause c is = (
        (let b = holds.passed c is in
            (b.0, (b.1.0, (b.1.1.0, (b.1.1.1.0, (b.1.1.1.1.0, (b.1.1.1.1.1.0, (b.1.1.1.1.1.1.0, (file_passed c is, tt))))))))),
        record { filed = filed c is; text = refl },
        λ trap no. no,
      )

    module _ (out now_out : Option (List ℕ)) (faults now_faults : ℕ) where
      file_written : (result : Result (Unit {0}) End) → WroteFile file out now_out faults now_faults result
          → Evaluates (compile_of p m k) told out now_out faults now_faults result
      file_written result wrote = text_written (compile_of p m k) told out faults (laid_out (written file))
          (text_cause wrote.fits) now_out now_faults result wrote.wrote

      pub file_ends : (result : Result (Unit {0}) End) → FilesTo file out now_out faults now_faults result
          → Evaluates (compile_of p m k) told out now_out faults now_faults result
      file_ends (Ok value) wrote = file_written (Ok value) wrote
      file_ends (Err (Refused its)) ends = inr (record {
        out_is = ends.1;
        faults_is = ends.2;
        stopped = λ bank. file_stops bank its ends.0;
      })
      file_ends (Err NoMemory) ends = inr (record {
        out_is = ends.0;
        faults_is = ends.1;
        stopped = λ bank. memory_stops (compile_of p m k) told bank bank refl;
      })
      file_ends (Err Usage) wrote = file_written (Err Usage) wrote
      file_ends (Err (Absent name)) wrote = file_written (Err (Absent name)) wrote
      file_ends (Err (FileFault name)) wrote = file_written (Err (FileFault name)) wrote
      file_ends (Err (Trapped trap)) wrote = file_written (Err (Trapped trap)) wrote
      file_ends (Err SinkFault) wrote = file_written (Err SinkFault) wrote
