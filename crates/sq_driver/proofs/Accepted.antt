-- The demo's texts are accepted: no phase has a fault, and nothing traps.
use Rattle.std.proofs.Common.{◌≡◌, inl, inr, ℕ, ◌<◌, ◌≤◌, List, Some, None, Result, Ok, Err, refl, sym, ◌∙◌, ap, subst, arith}
use Rattle.sq_port.specs.Ports.{Content}
use Rattle.sq_text.specs.declared.code.Phase.{Phase}
use Rattle.sq_text.specs.declared.code.Phase.TheVariants.{Program, Types, Machine, Mapping, Resolve, Race, Capacity, Plan, Cost, Order, Input}
use Rattle.sq_text.specs.declared.fault.Fault.{Fault}
use Rattle.sq_ast.specs.declared.program.Program.{Program as Tree}
use Rattle.sq_ast.specs.Modes.{is_read}
use Rattle.sq_types.specs.Sites.{TypeFault}
use Rattle.sq_machfile.specs.Machines.{Hierarchy, WithinLimits}
use Rattle.sq_mapping.specs.declared.mapping.Mapping.{Mapping as Mapped}
use Rattle.sq_mapfile.specs.Mappings.{StandsFor as IsMappingOf, MappingFault}
use Rattle.sq_arrays.specs.Arrays.{arrays_of}
use Rattle.sq_leaf.specs.Source.{Arrays}
use Rattle.sq_forms.specs.Decls.{most_extent, most_elements}
use Rattle.sq_forms.specs.Resolving.{Resolving, resolution, entry_extents}
use Rattle.sq_spec.specs.Works.{flat}
use Rattle.sq_spec.specs.declared.resolved.Resolved.{Resolved}
use Rattle.sq_report.specs.Demo.{demo_program, demo_mapping, demo_machine}
use Rattle.sq_report.specs.declared.trap.Trap.{Trap}
use Rattle.sq_demo.specs.Data.{demo_data}
use Rattle.sq_demo_laws.specs.Tree.{demo_tree}
use Rattle.sq_demo_laws.specs.Machine.{demo_hierarchy, demo_mapped}
use Rattle.sq_demo_laws.specs.FormsFound.{square, demo_forms, demo_uses, demo_resolving}
use Rattle.sq_demo_laws.specs.Laws.{DemoLaws, demo_wants, demo_values}
use Rattle.sq_words.specs.declared.words.Kind.TheVariants.{Demo}
use Rattle.sq_words.specs.Words.{program, machine, demo_of}
use Rattle.sq_driver.specs.Phases.{Inputs, inputs_of}
use Rattle.sq_driver.specs.Holding.{Holds}
use Rattle.sq_driver.specs.Programs.{IsProgramText, ProgramFault}
use Rattle.sq_driver.specs.Sources.{IsMachineText, IsMappingText, IsFirstMachineFault, IsFirstMappingFault, Sources, IsFirstOfMapping}
use Rattle.sq_driver.specs.Races.{IsResolved, IsFirstOfResolve, IsFirstOfRace}
use Rattle.sq_driver.specs.Capacity.{IsFirstOfCapacity}
use Rattle.sq_driver.specs.Entry.{params_of, wants_of, data_arrays, Entry, IsFirstOfInput, TrapsFlat}
use Rattle.sq_driver.specs.Faults.{IsFirstOfTypes, IsFirstOf}

-- what a text that is there is
held : {A : Type 0} (Is : List ℕ → A → Type 0) (text : List ℕ) (value : A) → Holds Is (Some text) value → Is text value
held Is text value h = let same : h.0 ≡ text = (let e : Some text ≡ Some h.0 = h.1 in cc) in
    subst (λ t. Is t value) same h.2

no_error : {A E : Type 0} (r : Result A E) (a : A) (e : E) → r ≡ Ok a → r ≡ Err e → ⊥
no_error r a e good bad = let both : Ok a ≡ Err e = sym good ∙ bad in cc

module _ (laws : DemoLaws) (c : Content) (n : ℕ) where
  -- the texts of the demo of a number, whatever files hold
  abbrev texts : Inputs
  texts = inputs_of c (demo_of n)

  tree_is : (tree : Tree) → Holds IsProgramText (texts program) tree → tree ≡ demo_tree
  tree_is tree h = let its = held IsProgramText demo_program tree h in laws.one_tree its.tokens tree its.are its.stand

  machine_is : (hierarchy : Hierarchy) → Holds IsMachineText (texts machine) hierarchy → hierarchy ≡ demo_hierarchy
  machine_is hierarchy h = laws.one_machine hierarchy (held IsMachineText demo_machine hierarchy h).stands

  module _ (s : Sources texts) where
    its_tree : s.tree ≡ demo_tree
    its_tree = tree_is s.tree s.program_is

    its_machine : s.hierarchy ≡ demo_hierarchy
    its_machine = machine_is s.hierarchy s.machine_is

    its_mapping : s.mapped ≡ demo_mapped
    its_mapping =
        let its = held (IsMappingText s.tree s.hierarchy.levels) demo_mapping s.mapped s.mapping_is in
        laws.one_mapping s.mapped
        (subst (λ (h : Hierarchy). IsMappingOf h.levels demo_mapping s.mapped) its_machine its.stands)

    its_limits : WithinLimits demo_hierarchy
    its_limits = subst WithinLimits its_machine (held IsMachineText demo_machine s.hierarchy s.machine_is).within

    its_resolution : resolution s.tree.tasks s.mapped ≡ Ok demo_resolving
    its_resolution =
        ap (λ (t : Tree). resolution t.tasks s.mapped) its_tree
        ∙ ap (λ (m : Mapped). resolution demo_tree.tasks m) its_mapping
        ∙ laws.resolves

    -- the forms of these texts
    module _ (r : Resolved) (are : IsResolved s.tree s.hierarchy s.mapped r) where
      of_tree : r.typed.now ≡ demo_tree
      of_tree = are.tree_is ∙ its_tree

      of_machine : r.machine.now ≡ demo_hierarchy
      of_machine = are.machine_is ∙ its_machine

      of_mapping : r.mapping.now ≡ demo_mapped
      of_mapping = are.mapping_is ∙ its_mapping

      left_is : are.forms.left ≡ demo_resolving
      left_is = let both : Ok are.forms.left ≡ Ok demo_resolving = sym are.forms.through ∙ its_resolution in cc

      of_forms : r.forms ≡ demo_forms
      of_forms = sym are.forms.are ∙ ap (λ (x : Resolving). x.forms) left_is

      of_uses : r.uses ≡ demo_uses
      of_uses = sym are.forms.used ∙ ap (λ (x : Resolving). x.uses) left_is

  -- ---- the phases

  no_program : (its : Fault) → Holds ProgramFault (texts program) its → ⊥
  no_program its h = by_case (held ProgramFault demo_program its h)
    where
      by_case : ProgramFault demo_program its → ⊥
      by_case (inl fault) = laws.tokens its fault
      by_case (inr misread) = laws.read misread.tokens its misread.are misread.has

  no_types : (its : Fault) → IsFirstOfTypes texts its → ⊥
  no_types its h = laws.faultless its (subst (λ t. TypeFault t its) (tree_is h.tree h.program_is) h.first.0)

  no_machine : (its : Fault) → Holds IsFirstMachineFault (texts machine) its → ⊥
  no_machine its h = laws.machine its (held IsFirstMachineFault demo_machine its h).0

  no_mapping : (its : Fault) → IsFirstOfMapping texts its → ⊥
  no_mapping its h =
      let fault = (held (IsFirstMappingFault h.tree h.hierarchy.levels) demo_mapping its h.first).0 in
      laws.mapping its (subst (λ (m : Hierarchy). MappingFault demo_tree m.levels demo_mapping its)
      (machine_is h.hierarchy h.machine_is)
      (subst (λ t. MappingFault t h.hierarchy.levels demo_mapping its) (tree_is h.tree h.program_is) fault))

  no_resolve : (its : Fault) → IsFirstOfResolve texts its → ⊥
  no_resolve its h = no_error (resolution h.sources.tree.tasks h.sources.mapped) demo_resolving its
      (its_resolution h.sources) h.first

  no_race : (its : Fault) → IsFirstOfRace texts its → ⊥
  no_race its h =
      let first = h.first.first in
      laws.free h.forms (of_tree h.sources h.forms h.are) (of_mapping h.sources h.forms h.are)
      (of_forms h.sources h.forms h.are)
      (of_uses h.sources h.forms h.are) first.form first.round first.found first.holds

  no_lack : (its : Fault) → IsFirstOfCapacity texts its → ⊥
  no_lack its h =
      let lack = h.first.first.lacks in
      let enough : h.first.need ≤ lack.its.capacity =
      laws.enough (its_limits h.sources) h.forms (of_tree h.sources h.forms h.are) (of_mapping h.sources h.forms h.are)
      (of_machine h.sources h.forms h.are) (of_forms h.sources h.forms h.are) h.first.node h.first.need lack.its
      lack.there lack.needs in
      let short : h.first.capacity < h.first.need = lack.short in
      let same : h.first.capacity ≡ lack.its.capacity = lack.capacity_is in
      omega (arith, enough, short, same)

  no_order : (its : Fault) → IsFirstOf Demo Order texts its → ⊥
  no_order its h = let none : None ≡ Some h.0 = h.1 in cc

  no_cost : (its : Fault) → IsFirstOf Demo Cost texts its → ⊥
  no_cost its (inl h) = let none : None ≡ Some h.first.0 = h.first.1 in cc
  no_cost its (inr h) = let none : None ≡ Some h.costed.costs_are.0 = h.costed.costs_are.1 in cc

  extents_are : entry_extents demo_mapped.sizes (params_of demo_tree demo_mapped) ≡ Ok (square 128)
  unfolding most_extent most_elements
  extents_are = refl

  its_extents : (e : Entry texts) → e.extents ≡ square 128
  its_extents e =
      let same : entry_extents e.sources.mapped.sizes (params_of e.sources.tree e.sources.mapped) ≡ Ok (square 128) =
      ap (λ (t : Tree). entry_extents e.sources.mapped.sizes (params_of t e.sources.mapped)) (its_tree e.sources)
      ∙ ap (λ (m : Mapped). entry_extents m.sizes (params_of demo_tree m)) (its_mapping e.sources) ∙ extents_are in
      let both : Ok e.extents ≡ Ok (square 128) = sym e.extents_are ∙ same in
      cc

  no_input : (its : Fault) → IsFirstOfInput texts its → ⊥
  no_input its h =
      let bytes : demo_data n ≡ h.bytes = (let e : Some (demo_data n) ≡ Some h.bytes = h.there in cc) in
      let read = subst (λ (t : Tree). arrays_of
      (wants_of is_read (params_of t h.entry.sources.mapped) 0 h.entry.extents) h.bytes ≡ Err h.found)
      (its_tree h.entry.sources) h.read in
      let mapped = subst (λ (m : Mapped). arrays_of (wants_of is_read (params_of demo_tree m) 0 h.entry.extents) h.bytes
      ≡ Err h.found)
      (its_mapping h.entry.sources) read in
      let sized = subst (λ es. arrays_of (wants_of is_read (params_of demo_tree demo_mapped) 0 es) h.bytes ≡ Err
      h.found) (its_extents h.entry) mapped in
      let bad : arrays_of demo_wants (demo_data n) ≡ Err h.found = subst (λ b. arrays_of demo_wants b ≡ Err h.found)
      (sym bytes) sized in
      no_error (arrays_of demo_wants (demo_data n)) (demo_values n) h.found (laws.input n) bad

  pub no_fault : (phase : Phase) (its : Fault) → IsFirstOf Demo phase texts its → ⊥
  no_fault Program its h = no_program its h
  no_fault Types its h = no_types its h
  no_fault Machine its h = no_machine its h
  no_fault Mapping its h = no_mapping its h
  no_fault Resolve its h = no_resolve its h
  no_fault Race its h = no_race its h
  no_fault Capacity its h = no_lack its h
  no_fault Plan its h = h
  no_fault Cost its h = no_cost its h
  no_fault Order its h = no_order its h
  no_fault Input its h = no_input its h

  pub no_trap : (trap : Trap) → TrapsFlat texts trap → ⊥
  no_trap trap h =
      let s = h.given.entry.sources in
      let start : Arrays = data_arrays texts h.given in
      let by_tree = subst (λ (t : Tree). flat t s.mapped start ≡ Err h.trapped) (its_tree s) h.run in
      laws.trapless start h.trapped
      (subst (λ (m : Mapped). flat demo_tree m start ≡ Err h.trapped) (its_mapping s) by_tree)
