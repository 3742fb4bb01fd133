-- Each node of the demo's machine has what the program's forms need there.
use Rattle.std.proofs.Common.{◌≡◌, ◌⊎◌, inl, inr, ℕ, ◌≤◌, true, leb, List, map, Some, refl, sym, ◌∙◌, ap, subst, arith, slice_get, if◌then◌else◌}
use Rattle.std.specs.List.{list_all}
use Rattle.std.specs.Option.{option_map}
use Rattle.std.proofs.lemmas.Option.{slice_get-map}
use Rattle.sq_machfile.specs.declared.node.Node.{Node}
use Rattle.sq_machfile.specs.Machines.{Hierarchy, WithinLimits}
use Rattle.sq_mapping.specs.declared.mapping.Mapping.{Mapping}
use Rattle.sq_ast.specs.declared.program.Program.{Program}
use Rattle.sq_mapping.specs.Sound.{Sound}
use Rattle.sq_forms.specs.declared.form.Form.{Form}
use Rattle.sq_spec_laws.specs.Needs.{Ended, ends, EndsAt, Needs, FormsRunAtTheirLevel}
use Rattle.sq_demo_laws.specs.Tree.{demo_tree}
use Rattle.sq_demo_laws.specs.Machine.{demo_mapped, demo_hierarchy}
use Rattle.sq_demo_laws.specs.FormsFound.{demo_forms, demo_resolving}
use Rattle.sq_demo_laws.specs.Laws.{NodesHaveEnough}
use Rattle.sq_demo_laws.proofs.Tests.{passes, at_most}
use Rattle.sq_demo_laws.proofs.Resolved.{program_resolves}

-- the bytes of three matrices of ints, by their level: of 128 by 128, 32 by 32, and 8 by 8
abbrev need_at : ℕ → ℕ
need_at level = if leb level 0 then 196608 else (if leb level 1 then 12288 else 768)

abbrev all_ends : List Ended
all_ends = ends demo_tree.tasks demo_mapped.instances demo_forms

ends_fit : list_all (λ (e : Ended). leb e.1 (need_at e.0.level)) all_ends ≡ true
ends_fit = refl

nodes_fit : list_all (λ (n : Node). leb (need_at n.level) n.capacity) demo_hierarchy.nodes ≡ true
nodes_fit = refl

are_forms : map (λ (e : Ended). e.0) all_ends ≡ demo_forms
are_forms = refl

-- the form that an end is of
form_of : (k : ℕ) (e : Ended) (f : Form) → slice_get all_ends k ≡ Some e → slice_get demo_forms k ≡ Some f → e.0 ≡ f
form_of k e f at_e at_f =
    let both : Some e.0 ≡ Some f =
    sym (ap (option_map (λ (e : Ended). e.0)) at_e) ∙ sym (slice_get-map (λ (e : Ended). e.0) all_ends k)
    ∙ ap (λ (fs : List Form). slice_get fs k) are_forms ∙ at_f in
    cc

module _ (run : FormsRunAtTheirLevel) (within : WithinLimits demo_hierarchy)
    (sound : Sound demo_tree demo_hierarchy.levels demo_mapped) where
  end_fits : (node n : ℕ) (its : Node) → slice_get demo_hierarchy.nodes node ≡ Some its
      → EndsAt demo_tree.tasks demo_mapped.instances demo_hierarchy.nodes demo_forms node n → n ≤ its.capacity
  end_fits node n its there e =
      let at = run demo_tree demo_hierarchy demo_mapped demo_resolving within sound program_resolves e.form node e.runs
      in
      let same : Some at.own ≡ Some its = sym at.own_there ∙ there in
      let own : at.own ≡ its = cc in
      let form : e.ended.0 ≡ at.form = form_of e.form e.ended at.form e.there at.form_there in
      let level : e.ended.0.level ≡ its.level = ap (λ (f : Form). f.level) form ∙ sym at.level
      ∙ ap (λ (m : Node). m.level) own in
      let first : e.ended.1 ≤ need_at e.ended.0.level =
      at_most e.ended.1 (need_at e.ended.0.level)
      (passes (λ (e : Ended). leb e.1 (need_at e.0.level)) all_ends ends_fit e.form e.ended e.there) in
      let second : need_at its.level ≤ its.capacity =
      at_most (need_at its.level) its.capacity
      (passes (λ (n : Node). leb (need_at n.level) n.capacity) demo_hierarchy.nodes nodes_fit node its there) in
      let need : need_at e.ended.0.level ≡ need_at its.level = ap need_at level in
      let is : e.ended.1 ≡ n = e.is in
      omega (arith, first, second, need, is)

  need_fits : (node n : ℕ) (its : Node) → slice_get demo_hierarchy.nodes node ≡ Some its
      → Needs demo_tree.tasks demo_mapped.instances demo_hierarchy.nodes demo_forms node n → n ≤ its.capacity
  need_fits node n its there needs = by_case needs.is
    where
      by_case : (n ≡ 0) ⊎ EndsAt demo_tree.tasks demo_mapped.instances demo_hierarchy.nodes demo_forms node n
          → n ≤ its.capacity
      by_case (inl e) = omega (arith, e)
      by_case (inr e) = end_fits node n its there e

  pub nodes_have_enough : NodesHaveEnough
  nodes_have_enough r typed mapping machine forms node n its there needs =
      let by_tree = subst (λ (t : Program). Needs t.tasks r.mapping.now.instances r.machine.now.nodes r.forms node n)
      typed needs in
      let by_mapping = subst (λ (m : Mapping). Needs demo_tree.tasks m.instances r.machine.now.nodes r.forms node n)
      mapping by_tree in
      let by_machine = subst (λ (m : Hierarchy). Needs demo_tree.tasks demo_mapped.instances m.nodes r.forms node n)
      machine by_mapping in
      need_fits node n its (subst (λ (m : Hierarchy). slice_get m.nodes node ≡ Some its) machine there)
      (subst (λ (fs : List Form). Needs demo_tree.tasks demo_mapped.instances demo_hierarchy.nodes fs node n) forms
      by_machine)
