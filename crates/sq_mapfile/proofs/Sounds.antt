-- The laws of a mapping that keeps the rules.
use Rattle.std.proofs.Common.{◌≡◌, ℕ, ◌+◌, ◌^◌, ◌<◌, false, eqb, List, [], ◌∷◌, map, length, Option, Some, None, refl, sym, ◌∙◌, ap, subst}
use Rattle.std.specs.Option.{option_map}
use Rattle.std.specs.List.{slice_get}
use Rattle.std.proofs.lemmas.Bool.Decides.{Decides-eqb}
use Rattle.std.proofs.lemmas.Option.{slice_get-map}
use Rattle.sq_text.specs.declared.code.Code.TheVariants as code
use Rattle.sq_text.specs.declared.fault.Fault.{Fault}
use Rattle.sq_machfile.specs.declared.level.Level.{Level}
use Rattle.sq_ast.specs.declared.program.Program.{Program}
use Rattle.sq_mapping.specs.declared.mapping.Route.{Route}
use Rattle.sq_mapping.specs.declared.mapping.Instance.{Instance}
use Rattle.sq_mapping.specs.declared.mapping.Mapping.{Mapping}
use Rattle.sq_mapfile.specs.declared.text.InstanceText.{InstanceText}
use Rattle.sq_mapfile.specs.declared.text.MappingText.{MappingText}
use Rattle.sq_text.specs.Names.{same_name}
use Rattle.sq_mapfile.specs.Names.{level_of, instance_of}
use Rattle.sq_mapping.specs.Required.{required_by}
use Rattle.sq_mapfile.specs.Faults.{Scope, inside, scope, NameFault, required_of, required_at, level_at, has_call, has_tunable, has_size, missing_call, missing_tunable, missing_size, is_below_root}
use Rattle.sq_mapfile.specs.Cycles.{CycleFault}
use Rattle.sq_mapfile.specs.Mappings.{tunings_of}
use Rattle.sq_mapfile.specs.Resolving.{or_zero, routes_of, instance_with, mapping_with}
use Rattle.sq_mapping.specs.Sound.{EachOnce, Exactly, RouteFits, InstanceFits, EntryFits, Sound}
use Rattle.sq_mapfile.proofs.Kept.{unbroken, none_lacks, InstanceKeeps, instance_at, Keeps, keeps}
use Rattle.sq_mapfile.proofs.Indices.{found_below}
use Rattle.sq_mapfile.proofs.Once.{names, none_missing}
use Rattle.sq_mapfile.proofs.Resolved.{level_index}
use Rattle.sq_mapfile.proofs.Facts.{not_false, Known, known, has_call_among, has_tunable_among, has_size_among, route_tasks, tuning_names, set_names, calls_once, tunables_once, sizes_once, instance_name, instances_once, calls_known, tunables_known, sizes_known, kinds_fit, leaf_goes_round, reaches, RouteTo, routes_fit}
use Rattle.sq_mapfile.proofs.Paths.{no_cycle}

record Mapped {A B : Type 0} (f : A → B) (xs : List A) (k : ℕ) (y : B) : Type 0 where
  pub item : A
  pub there : slice_get xs k ≡ Some item
  pub is : f item ≡ y

mapped : {A B : Type 0} (f : A → B) (xs : List A) (k : ℕ) (y : B) → slice_get (map f xs) k ≡ Some y → Mapped f xs k y
mapped {A} {B} f xs k y h = cases (slice_get xs k) refl (sym (slice_get-map f xs k) ∙ h)
  where
    cases : (o : Option A) → slice_get xs k ≡ o → option_map f o ≡ Some y → Mapped f xs k y
    cases None e h = absurd (cc)
    cases (Some x) e h = record { item = x; there = e; is = cc }

map_at : {A B : Type 0} (f : A → B) (xs : List A) (k : ℕ) (x : A) → slice_get xs k ≡ Some x → slice_get (map f xs) k ≡ Some (f x)
map_at f xs k x h = slice_get-map f xs k ∙ ap (option_map f) h

names_of : (levels : List Level) (instances xs : List InstanceText) → map (λ x. x.name) (map (instance_with levels instances) xs) ≡ names instance_name xs
names_of levels instances [] = refl
names_of levels instances (x ∷ rest) = ap (λ ns. x.name.name ∷ ns) (names_of levels instances rest)

module _ (program : Program) (levels : List Level) (m : MappingText) (few : length levels < 2 ^ 32) (fit : length m.instances < 2 ^ 32) (kept : Keeps (scope program levels m) m) where
  abbrev the_scope : Scope
  the_scope = scope program levels m

  abbrev the_mapping : Mapping
  the_mapping = mapping_with levels m

  abbrev level_number : InstanceText → ℕ
  level_number x = or_zero (level_of levels x.level.name)

  route_fits : (x : InstanceText) (route : Route) → RouteTo the_scope (level_number x) route → RouteFits the_mapping (instance_with levels m.instances x) route
  route_fits x route to = record {
    callee = instance_with levels m.instances to.text;
    there = map_at (instance_with levels m.instances) m.instances route.instance to.text to.there;
    task = to.task;
    level = to.next;
  }

  calls_fit : (x : InstanceText) (i : ℕ) → InstanceKeeps the_scope i x → (k : Known the_scope x)
      → Exactly (required_by k.variant).calls (map (λ route. route.task) (routes_of m.instances x.items))
  calls_fit x i h k =
      let r = required_by k.variant in
      let none = subst (λ o. missing_call o x.items ≡ None) k.required (none_lacks code.CallMissing x.name (missing_call (required_of the_scope x) x.items) h.calls) in
      subst (λ ns. Exactly r.calls ns) (sym (route_tasks m.instances x.items)) (record {
        all = λ name wanted. sym (has_call_among x.items name) ∙ none_missing (has_call x.items) r.calls none name wanted;
        only = calls_known (inside the_scope x) r 0 x.items k.required h.items;
        once = calls_once (inside the_scope x) h.items;
      })

  tunables_fit : (x : InstanceText) (i : ℕ) → InstanceKeeps the_scope i x → (k : Known the_scope x)
      → Exactly (map (λ t. t.0) (required_by k.variant).tunables) (map (λ tuning. tuning.name) (tunings_of x.items))
  tunables_fit x i h k =
      let r = required_by k.variant in
      let wanted = map (λ t. t.0) r.tunables in
      let none = subst (λ o. missing_tunable o x.items ≡ None) k.required (none_lacks code.TunableMissing x.name (missing_tunable (required_of the_scope x) x.items) h.tunables) in
      subst (λ ns. Exactly wanted ns) (sym (tuning_names x.items)) (record {
        all = λ name needed. sym (has_tunable_among x.items name) ∙ none_missing (has_tunable x.items) wanted none name needed;
        only = tunables_known (inside the_scope x) r 0 x.items k.required h.items;
        once = tunables_once (inside the_scope x) h.items;
      })

  text_fits : (x : InstanceText) (i : ℕ) → InstanceKeeps the_scope i x → InstanceFits program levels the_mapping (instance_with levels m.instances x)
  text_fits x i h =
      let n = inside the_scope x in
      let k = known the_scope i x h in
      let at = level_index levels x.level few h.level in
      record {
        variant = k.variant;
        runs = k.is;
        level = found_below (λ l. same_name x.level.name l.name) levels (level_number x) at;
        calls = calls_fit x i h k;
        routes = λ j route there. route_fits x route (routes_fit n (level_number x) 0 x.items at few fit kept.instances h.items j route there);
        tunables = tunables_fit x i h k;
        kinds = kinds_fit n (required_by k.variant) 0 x.items k.required h.items;
        spread = λ leaf. leaf_goes_round n 0 x.items leaf h.items;
      }

  instance_fits : (k : ℕ) (x : Instance) → slice_get the_mapping.instances k ≡ Some x → InstanceFits program levels the_mapping x
  instance_fits k x at =
      let text = mapped (instance_with levels m.instances) m.instances k x at in
      let h = instance_at the_scope 0 m.instances kept.instances k text.item text.there in
      subst (InstanceFits program levels the_mapping) text.is (text_fits text.item (0 + k) h)

  entry_fits : EntryFits program the_mapping
  entry_fits =
      let s = the_scope in
      let to = reaches s m.entry few fit kept.instances kept.entry in
      let k = known s to.index to.text to.keeps in
      let r = required_by k.variant in
      let required = ap (required_at s) to.of_name ∙ k.required in
      let level = ap (level_at s) to.of_name ∙ to.level in
      let entry = instance_of m.instances m.entry.name in
      let skip = subst (λ l. is_below_root l ≡ false) level (unbroken code.LevelSkip m.entry (is_below_root (level_at s entry)) kept.skip) in
      let none = subst (λ o. missing_size o m.sizes ≡ None) required (none_lacks code.SizeMissing m.entry (missing_size (required_at s entry) m.sizes) kept.missing) in
      record {
        entry = instance_with levels m.instances to.text;
        there = map_at (instance_with levels m.instances) m.instances the_mapping.entry to.text to.there;
        root = (Decides-eqb (level_number to.text) 0).0 (not_false (eqb (level_number to.text) 0) skip);
        variant = k.variant;
        runs = k.is;
        sizes = subst (λ ns. Exactly r.sizes ns) (sym (set_names m.sizes)) (record {
          all = λ name wanted. sym (has_size_among m.sizes name) ∙ none_missing (has_size m.sizes) r.sizes none name wanted;
          only = sizes_known (required_at s entry) r m.sizes 0 m.sizes required kept.sizes;
          once = sizes_once (required_at s entry) m.sizes kept.sizes;
        });
      }

  names_once : EachOnce (map (λ x. x.name) the_mapping.instances)
  names_once = subst EachOnce (sym (names_of levels m.instances m.instances)) (instances_once the_scope kept.instances)

pub sound : (program : Program) (levels : List Level) (m : MappingText) → length levels < 2 ^ 32 → length m.instances < 2 ^ 32
    → ((f : Fault) → NameFault program levels m f → ⊥) → ((f : Fault) → CycleFault m f → ⊥) → Sound program levels (mapping_with levels m)
sound program levels m few fit no_fault no_call =
    let kept = keeps program levels m no_fault in
    record {
      entry = entry_fits program levels m few fit kept;
      instances = instance_fits program levels m few fit kept;
      names = names_once program levels m few fit kept;
      acyclic = no_cycle program levels m fit kept.instances no_call;
    }
