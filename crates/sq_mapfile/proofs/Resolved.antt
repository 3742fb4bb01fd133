-- A mapping that keeps the rules resolves to what the functions give, and to nothing else.
use Rattle.std.proofs.Common.{◌≡◌, ℕ, suc, ◌<◌, ◌^◌, length, List, [], ◌∷◌, map, Option, Some, None, refl, sym, ◌∙◌, ap}
use Rattle.std.specs.Option.{is_none}
use Rattle.sq_text.specs.declared.code.Code.TheVariants as code
use Rattle.sq_text.specs.declared.fault.Fault.{Fault}
use Rattle.sq_text.specs.declared.spread.SpreadRule.{SpreadRule}
use Rattle.sq_text.specs.declared.word.Word.{Word}
use Rattle.sq_ast.specs.declared.program.VariantKind.{VariantKind}
use Rattle.sq_ast.specs.declared.program.Program.{Program}
use Rattle.sq_machfile.specs.declared.level.Level.{Level}
use Rattle.sq_mapping.specs.declared.mapping.Tuning.{Tuning}
use Rattle.sq_mapping.specs.declared.mapping.Route.{Route}
use Rattle.sq_mapping.specs.declared.mapping.Instance.{Instance}
use Rattle.sq_mapping.specs.declared.mapping.SizeSet.{SizeSet}
use Rattle.sq_mapping.specs.declared.mapping.Mapping.{Mapping}
use Rattle.sq_mapfile.specs.declared.text.ItemText.{ItemText}
use Rattle.sq_mapfile.specs.declared.text.ItemText.TheVariants.{Tunable, Call, Spread}
use Rattle.sq_mapfile.specs.declared.text.InstanceText.{InstanceText}
use Rattle.sq_mapfile.specs.declared.text.MappingText.{MappingText}
use Rattle.sq_text.specs.Names.{Bytes, same_name}
use Rattle.sq_mapfile.specs.Names.{index_of, level_of}
use Rattle.sq_mapfile.specs.Faults.{NameFault, Scope, Inside, inside, scope, no_instance, no_level}
use Rattle.sq_mapfile.specs.Mappings.{Resolves, size_set, tunings_of, spread_of, AreRoutes, no_route, no_call, no_rule, a_route, IsInstance, AreInstances, none_left, one_more}
use Rattle.sq_mapfile.specs.Resolving.{or_zero, routes_of, instance_with, mapping_with}
use Rattle.sq_mapfile.proofs.Kept.{unbroken, ItemsKeep, InstancesKeep, keeps}
use Rattle.sq_mapfile.proofs.Indices.{index_is}

pub instance_index : (instances : List InstanceText) (name : Word) → length instances < 2 ^ 32 → no_instance instances name ≡ None
    → index_of instances name.name ≡ Some (or_zero (index_of instances name.name))
instance_index instances name fit h =
    index_is (λ x. same_name name.name x.name.name) instances fit (unbroken code.NoInstance name (is_none (index_of instances name.name)) h)

pub level_index : (levels : List Level) (name : Word) → length levels < 2 ^ 32 → no_level levels name ≡ None → level_of levels name.name ≡ Some (or_zero (level_of levels name.name))
level_index levels name few h = index_is (λ level. same_name name.name level.name) levels few (unbroken code.NoLevel name (is_none (level_of levels name.name)) h)

pub are_routes : (n : Inside) (i : ℕ) (items : List ItemText) → length n.scope.instances < 2 ^ 32
    → ItemsKeep n i items → AreRoutes n.scope.instances items (routes_of n.scope.instances items)
are_routes n i [] fit h = no_route
are_routes n i (Tunable name values ∷ rest) fit h = no_call (are_routes n (suc i) rest fit h.1)
are_routes n i (Spread word rule ∷ rest) fit h = no_rule (are_routes n (suc i) rest fit h.1)
are_routes n i (Call task name ∷ rest) fit h = a_route (instance_index n.scope.instances name fit h.0.there) (are_routes n (suc i) rest fit h.1)

are_instances : (s : Scope) (i : ℕ) (xs : List InstanceText) → length s.levels < 2 ^ 32 → length s.instances < 2 ^ 32
    → InstancesKeep s i xs → AreInstances s.levels s.instances xs (map (instance_with s.levels s.instances) xs)
are_instances s i [] few fit h = none_left
are_instances s i (x ∷ rest) few fit h =
    one_more (record {
      name = refl;
      task = refl;
      kind = refl;
      level = level_index s.levels x.level few h.0.level;
      tunings = refl;
      routes = are_routes (inside s x) 0 x.items fit h.0.items;
      spread = refl;
    }) (are_instances s (suc i) rest few fit h.1)

pub resolved : (program : Program) (levels : List Level) (m : MappingText) → length levels < 2 ^ 32 → length m.instances < 2 ^ 32
    → ((f : Fault) → NameFault program levels m f → ⊥) → Resolves levels m (mapping_with levels m)
resolved program levels m few fit none =
    let kept = keeps program levels m none in
    record {
      entry = instance_index m.instances m.entry fit kept.entry;
      sizes = refl;
      instances = are_instances (scope program levels m) 0 m.instances few fit kept.instances;
    }

-- ---- nothing else

abbrev index_or : Option ℕ → ℕ
index_or None = 0
index_or (Some i) = i

abbrev the_routes : List InstanceText → List ItemText → List Route
the_routes instances [] = []
the_routes instances (Tunable name values ∷ rest) = the_routes instances rest
the_routes instances (Spread word rule ∷ rest) = the_routes instances rest
the_routes instances (Call task name ∷ rest) = record { task = task.name; instance = index_or (index_of instances name.name) } ∷ the_routes instances rest

abbrev route_to : Bytes → ℕ → Route
route_to task i = record { task = task; instance = i }

these_routes : {instances : List InstanceText} {items : List ItemText} {routes : List Route} → AreRoutes instances items routes → routes ≡ the_routes instances items
these_routes no_route = refl
these_routes (no_call p) = these_routes p
these_routes (no_rule p) = these_routes p
these_routes {instances} (a_route {task = task} {name = name} {i = i} {routes = routes} e p) =
    ap (λ n. route_to task.name n ∷ routes) (sym (ap index_or e)) ∙ ap (λ rs. route_to task.name (index_or (index_of instances name.name)) ∷ rs) (these_routes p)

abbrev instance_of : Bytes → Bytes → VariantKind → ℕ → List Tuning → List Route → SpreadRule → Instance
instance_of name task kind level tunings routes spread =
    record { name = name; task = task; kind = kind; level = level; tunings = tunings; routes = routes; spread = spread }

abbrev the_instance : List Level → List InstanceText → InstanceText → Instance
the_instance levels instances x =
    instance_of x.name.name x.task.name x.kind (index_or (level_of levels x.level.name)) (tunings_of x.items) (the_routes instances x.items) (spread_of x.items)

this_instance : (levels : List Level) (instances : List InstanceText) (x : InstanceText) (a : Instance) → IsInstance levels instances x a → a ≡ the_instance levels instances x
this_instance levels instances x a h =
    let b = the_instance levels instances x in
    ap (λ n. instance_of n a.task a.kind a.level a.tunings a.routes a.spread) h.name ∙ ap (λ t. instance_of b.name t a.kind a.level a.tunings a.routes a.spread) h.task
    ∙ ap (λ k. instance_of b.name b.task k a.level a.tunings a.routes a.spread) h.kind
    ∙ ap (λ l. instance_of b.name b.task b.kind l a.tunings a.routes a.spread) (sym (ap index_or h.level))
    ∙ ap (λ t. instance_of b.name b.task b.kind b.level t a.routes a.spread) h.tunings
    ∙ ap (λ r. instance_of b.name b.task b.kind b.level b.tunings r a.spread) (these_routes h.routes)
    ∙ ap (λ r. instance_of b.name b.task b.kind b.level b.tunings b.routes r) h.spread

these_instances : (levels : List Level) (instances : List InstanceText) {xs : List InstanceText} {found : List Instance} → AreInstances levels instances xs found
    → found ≡ map (the_instance levels instances) xs
these_instances levels instances none_left = refl
these_instances levels instances (one_more {x = x} {instance = a} {rest = rest} h more) =
    ap (λ a. a ∷ rest) (this_instance levels instances x a h) ∙ ap (λ rest. the_instance levels instances x ∷ rest) (these_instances levels instances more)

abbrev mapping_of : ℕ → List SizeSet → List Instance → Mapping
mapping_of entry sizes instances = record { entry = entry; sizes = sizes; instances = instances }

this_mapping : (levels : List Level) (m : MappingText) (a : Mapping) → Resolves levels m a
    → a ≡ mapping_of (index_or (index_of m.instances m.entry.name)) (map size_set m.sizes) (map (the_instance levels m.instances) m.instances)
this_mapping levels m a h =
    let entry = index_or (index_of m.instances m.entry.name) in
    let sizes = map size_set m.sizes in
    ap (λ e. mapping_of e a.sizes a.instances) (sym (ap index_or h.entry)) ∙ ap (λ s. mapping_of entry s a.instances) h.sizes
    ∙ ap (λ i. mapping_of entry sizes i) (these_instances levels m.instances h.instances)

pub one_resolved : (levels : List Level) (m : MappingText) (a b : Mapping) → Resolves levels m a → Resolves levels m b → a ≡ b
one_resolved levels m a b p q = this_mapping levels m a p ∙ sym (this_mapping levels m b q)
