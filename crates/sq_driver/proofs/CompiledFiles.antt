-- What `compile` writes is a plan file without faults that runs as the program.
use Rattle.std.proofs.Common.{◌≡◌, ℕ, List, [], ◌∷◌, Option, Some, None, refl, sym, ◌∙◌, ap, subst, ◌⊎◌, inl, inr, arith}
use Rattle.sq_text.specs.declared.fault.Fault.{Fault}
use Rattle.sq_text.specs.First.{AtOrBefore}
use Rattle.sq_text.specs.Faults.{IsFirst, fault_place, fault_number}
use Rattle.sq_ast.specs.Given.{IsGiven}
use Rattle.sq_machfile.specs.Machines.{Hierarchy, WithinLimits}
use Rattle.sq_mapping.specs.declared.mapping.Mapping.{Mapping}
use Rattle.sq_mapfile.specs.Mappings.{StandsFor}
use Rattle.sq_ir.specs.declared.plan.Plan.{Plan}
use Rattle.sq_spec.specs.declared.resolved.Resolved.{Resolved}
use Rattle.sq_compile.specs.Compiled.{IsPlanOf}
use Rattle.sq_planfile.specs.File.{PlanFile, entry_arrays}
use Rattle.sq_planfile.specs.Limits.{TextFault}
use Rattle.sq_ir.specs.DraftLeaves.{leaves_of}
use Rattle.sq_checker.specs.Laws.{FileFault}
use Rattle.sq_compiled_laws.specs.Filed.CheckLaws.First.{IsFirstFlaw}
use Rattle.sq_compiled_laws.specs.Filed.Filed.{text_of, IsFiled}
use Rattle.sq_compiled_laws.specs.Compiled.{IsCompiled}
use Rattle.sq_compiled_laws.specs.Refiled.{CompiledAreRefiled}
use Rattle.sq_words.specs.Words.{compile_of}
use Rattle.sq_driver.specs.Phases.{Inputs, inputs_of}
use Rattle.sq_driver.specs.Entry.{params_of}
use Rattle.sq_driver.specs.Races.{IsResolved}
use Rattle.sq_driver.specs.Sources.{Sources}
use Rattle.sq_driver.specs.Filing.{Filed, IsFirstOfText}
use Rattle.sq_driver.specs.CompiledFiles.{CompiledAreRead}

-- ---- where no fault is first there is none

at_itself : (f g : Fault) → g ≡ f → AtOrBefore fault_place fault_number f g
at_itself f g same = subst (λ (x : Fault). AtOrBefore fault_place fault_number f x) (sym same) (inr (refl, omega arith))

one_text_fault : (f : PlanFile) (a b : Fault) → TextFault f a → TextFault f b → b ≡ a
one_text_fault f a b (inl e) (inl d) = d.is ∙ sym e.is
one_text_fault f a b (inl e) (inr d) = absurd (d.0 a e)
one_text_fault f a b (inr e) (inl d) = absurd (e.0 b d)
one_text_fault f a b (inr (n, inl e)) (inr (o, inl d)) = d.is ∙ sym e.is
one_text_fault f a b (inr (n, inl e)) (inr (o, inr d)) = absurd (d.0 a e)
one_text_fault f a b (inr (n, inr e)) (inr (o, inl d)) = absurd (e.0 b d)
one_text_fault f a b (inr (n, inr e)) (inr (o, inr d)) = d.1.is ∙ sym e.1.is

no_text_fault : (inputs : Inputs) (filed : Filed inputs) → ((its : Fault) → IsFirstOfText inputs its → ⊥)
    → (its : Fault) → TextFault filed.file its → ⊥
no_text_fault inputs filed none its fault = none its (record {
  filed = filed;
  first = (fault, λ g that. at_itself its g (one_text_fault filed.file its g fault that));
})

-- ---- the plan file

module _ (inputs : Inputs) (filed : Filed inputs) where
  abbrev r : Resolved
  r = filed.forms

  abbrev f : PlanFile
  f = filed.file

  abbrev sources : Sources inputs
  sources = filed.its.sources

  abbrev its : IsResolved sources.tree sources.hierarchy sources.mapped r
  its = filed.its.are

  given : IsGiven sources.tree
  given = let its = sources.program_is.2 in record {
    text = sources.program_is.0;
    tokens = its.tokens;
    read = its.are;
    stand = its.stand;
  }

  planned : IsPlanOf r f.plan
  planned = subst (IsPlanOf r) (sym filed.file_is.plan_is) filed.plan_is

  compiled : IsCompiled r f
  compiled = record {
    read = record {
      program = subst IsGiven (sym its.tree_is) given;
      mapping_text = sources.mapping_is.0;
      mapping = subst (λ (m : Mapping). StandsFor r.machine.now.levels sources.mapping_is.0 m) (sym its.mapping_is)
          (subst (λ (h : Hierarchy). StandsFor h.levels sources.mapping_is.0 sources.mapped) (sym its.machine_is)
          sources.mapping_is.2.stands);
      within = subst WithinLimits (sym its.machine_is) sources.machine_is.2.within;
    };
    placed = planned.placed;
    good = planned.good;
    file = record {
      plan_is = refl;
      extents = filed.file_is.arrays.entry.extents;
      extents_are = filed.file_is.arrays.entry.are;
      arrays_are = filed.file_is.arrays.are
          ∙ ap (λ (q : Plan). entry_arrays (params_of r.typed.now r.mapping.now) filed.file_is.arrays.entry.extents
          q.draft.entry) (sym filed.file_is.plan_is);
    };
  }

-- neither the text nor its plan has a fault
no_fault : (f : PlanFile) → IsFiled f → (its : Fault) → FileFault (text_of f) its → ⊥
no_fault f filed its (inl fault) = filed.faultless its fault
no_fault f filed its (inr (o, flawed)) =
    filed.flawless flawed.flaw.flaw
    (subst (λ (g : PlanFile). IsFirstFlaw (leaves_of g.plan.draft) g.plan (Some flawed.flaw.flaw))
    (filed.only flawed.file flawed.means) flawed.flaw.first)

pub compiled_are_read : CompiledAreRefiled → CompiledAreRead
compiled_are_read law p m k c text trace cause =
    let passed = cause.0 in
    let gives = cause.1 in
    let inputs = inputs_of c (compile_of p m k) in
    let no_text : (its : Fault) → IsFirstOfText inputs its → ⊥ = passed.1.1.1.1.1.1.1.0.no_fault in
    let read = law gives.filed.forms gives.filed.file (compiled inputs gives.filed)
    (no_text_fault inputs gives.filed no_text) in
    record {
      filed = gives.filed;
      text_is = gives.text;
      faultless = λ its fault. no_fault gives.filed.file read.read its
          (subst (λ (t : List ℕ). FileFault t its) gives.text fault);
      read = read;
    }
