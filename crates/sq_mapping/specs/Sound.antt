-- What holds of every mapping that is accepted, in the terms of the mapping alone.
use Rattle.std.specs.Prelude.{◌≡◌, ◌⊎◌, ℕ, suc, ◌<◌, Bool, true, false, List, map, length, Some, slice_get}
use Rattle.std.specs.Map.{lookup}
use Rattle.sq_ast.specs.declared.program.Variant.{Variant}
use Rattle.sq_ast.specs.declared.program.Program.{Program}
use Rattle.sq_machfile.specs.declared.level.Level.{Level}
use Rattle.sq_mapping.specs.declared.mapping.Tuning.{Tuning}
use Rattle.sq_mapping.specs.declared.mapping.Route.{Route}
use Rattle.sq_mapping.specs.declared.mapping.Instance.{Instance}
use Rattle.sq_mapping.specs.declared.mapping.Mapping.{Mapping}
use Rattle.sq_text.specs.Names.{Bytes, same_name}
use Rattle.sq_text.specs.declared.spread.SpreadRule.TheVariants.{Cyclic}
use Rattle.sq_ast.specs.declared.program.VariantKind.TheVariants.{Leaf}
use Rattle.sq_mapping.specs.Names.{is_among, variant_of}
use Rattle.sq_mapping.specs.Required.{required_by}
use Rattle.sq_mapping.specs.declared.mapping.Setting.{Setting}
use Rattle.sq_mapping.specs.declared.mapping.Setting.TheVariants.{One, Many}

-- whether a tunable's value is a list
abbrev pub is_list : Setting → Bool
is_list (One value) = false
is_list (Many values) = true

-- no name stands at two indices
abbrev pub EachOnce : List Bytes → Type 0
EachOnce names = (i j : ℕ) (name : Bytes) → slice_get names i ≡ Some name → slice_get names j ≡ Some name → i ≡ j

-- the required names are given, each once, and no others
pub record Exactly (required given : List Bytes) : Type 0 where
  pub all : (name : Bytes) → is_among required name ≡ true → is_among given name ≡ true
  pub only : (name : Bytes) → is_among given name ≡ true → is_among required name ≡ true
  pub once : EachOnce given

-- this is the variant that an instance runs
abbrev pub Runs : Program → Instance → Variant → Type 0
Runs program x variant = variant_of program.tasks x.task x.kind ≡ Some variant

-- the route leads to an instance of its task, at the caller's level or the next
pub record RouteFits (mapping : Mapping) (caller : Instance) (route : Route) : Type 0 where
  pub callee : Instance
  pub there : slice_get mapping.instances route.instance ≡ Some callee
  pub task : callee.task ≡ route.task
  pub level : (callee.level ≡ caller.level) ⊎ (callee.level ≡ suc caller.level)

-- an instance has a variant of the program, a level of the machine, a route for each task that it calls and a value for
-- each tunable
pub record InstanceFits (program : Program) (levels : List Level) (mapping : Mapping) (x : Instance) : Type 0 where
  pub variant : Variant
  pub runs : Runs program x variant
  pub level : x.level < length levels
  pub calls : Exactly (required_by variant).calls (map (λ route. route.task) x.routes)
  pub routes : (k : ℕ) (route : Route) → slice_get x.routes k ≡ Some route → RouteFits mapping x route
  pub tunables : Exactly (map (λ t. t.0) (required_by variant).tunables) (map (λ tuning. tuning.name) x.tunings)
  -- a list for a list, and a number for a number
  pub kinds : (k : ℕ) (tuning : Tuning) → slice_get x.tunings k ≡ Some tuning
      → lookup (same_name tuning.name) (required_by variant).tunables ≡ Some (is_list tuning.setting)
  -- a leaf has no maps to spread
  pub spread : x.kind ≡ Leaf → x.spread ≡ Cyclic

-- the entry is at the root, and has a value for each of its size names
pub record EntryFits (program : Program) (mapping : Mapping) : Type 0 where
  pub entry : Instance
  pub there : slice_get mapping.instances mapping.entry ≡ Some entry
  pub root : entry.level ≡ 0
  pub variant : Variant
  pub runs : Runs program entry variant
  pub sizes : Exactly (required_by variant).sizes (map (λ size. size.name) mapping.sizes)

-- the instance at the first index has a route to the one at the second
pub record Calls (instances : List Instance) (a b : ℕ) : Type 0 where
  pub caller : Instance
  pub there : slice_get instances a ≡ Some caller
  pub index : ℕ
  pub route : Route
  pub among : slice_get caller.routes index ≡ Some route
  pub to : route.instance ≡ b

-- calls lead from the first instance to the second, at least one
pub data LeadsTo (instances : List Instance) (a : ℕ) : ℕ → Type 0 where
  by_call : {b : ℕ} → Calls instances a b → LeadsTo instances a b
  further : {b c : ℕ} → LeadsTo instances a b → Calls instances b c → LeadsTo instances a c

-- the laws of a mapping
pub record Sound (program : Program) (levels : List Level) (mapping : Mapping) : Type 0 where
  pub entry : EntryFits program mapping
  pub instances : (k : ℕ) (x : Instance) → slice_get mapping.instances k ≡ Some x → InstanceFits program levels mapping x
  pub names : EachOnce (map (λ x. x.name) mapping.instances)
  pub acyclic : (a : ℕ) → LeadsTo mapping.instances a a → ⊥
