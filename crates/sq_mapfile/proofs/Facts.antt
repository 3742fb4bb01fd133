-- What the rules of names say of the items of an instance, of instances and of sizes.
use Rattle.std.proofs.Common.{◌≡◌, ℕ, zero, suc, ◌+◌, ◌^◌, ◌<◌, Bool, true, false, not, ◌&&◌, ◌||◌, eqb, ◌⊎◌, inl, inr, List, [], ◌∷◌, map, length, Option, Some, None, is_some, refl, sym, ◌∙◌, ap, subst, arith, true≢false}
use Rattle.std.specs.Option.{is_none, option_map}
use Rattle.std.specs.List.{slice_get}
use Rattle.std.specs.Map.{lookup}
use Rattle.std.specs.Cmp.{booleans_Decides}
use Rattle.std.proofs.Math.Bool.{beq}
use Rattle.std.proofs.lemmas.Bool.Decides.{Decides-eqb}
use Rattle.sq_text.specs.Names.{Bytes, same_name}
use Rattle.sq_text.specs.declared.code.Code.TheVariants as code
use Rattle.sq_text.specs.declared.spread.SpreadRule.TheVariants.{Cyclic}
use Rattle.sq_text.specs.declared.word.Word.{Word}
use Rattle.sq_ast.specs.declared.program.VariantKind.TheVariants.{Leaf}
use Rattle.sq_ast.specs.declared.program.Variant.{Variant}
use Rattle.sq_mapping.specs.declared.mapping.Setting.{Setting}
use Rattle.sq_mapping.specs.declared.mapping.Tuning.{Tuning}
use Rattle.sq_mapping.specs.declared.mapping.Route.{Route}
use Rattle.sq_mapfile.specs.declared.text.SizeText.{SizeText}
use Rattle.sq_mapfile.specs.declared.text.ItemText.{ItemText}
use Rattle.sq_mapfile.specs.declared.text.ItemText.TheVariants.{Tunable, Call, Spread}
use Rattle.sq_mapfile.specs.declared.text.InstanceText.{InstanceText}
use Rattle.sq_mapping.specs.Names.{is_among, variant_of, at_index, first_from}
use Rattle.sq_mapfile.specs.Names.{is_tunable, is_call, has_task, index_of, instance_of, tunable_index, call_index, size_index, level_of, stands_before}
use Rattle.sq_mapping.specs.Required.{Required, required_by}
use Rattle.sq_mapping.specs.Sound.{is_list}
use Rattle.sq_mapfile.specs.Faults.{Scope, Inside, required_of, level_at, has_call, has_tunable, has_size, no_instance, is_uncalled, is_of_other_task, is_skip, is_no_tunable, is_no_size, is_other, is_other_kind, is_leaf, level_skip}
use Rattle.sq_mapfile.specs.Mappings.{tunings_of, spread_of, size_set}
use Rattle.sq_mapfile.specs.Resolving.{or_zero, routes_of}
use Rattle.sq_mapping.specs.Sound.{EachOnce}
use Rattle.sq_mapfile.proofs.Kept.{unbroken, not_there, ItemsKeep, ItemKeeps, item_at, InstanceKeeps, InstancesKeep, instance_at, SizesKeep, size_at}
use Rattle.sq_mapfile.proofs.Indices.{found_at}
use Rattle.sq_mapping.proofs.Same.{same}
use Rattle.sq_mapfile.proofs.Once.{among_cases, has_name, names, first_same, some_first, all_once, keys_of}
use Rattle.sq_mapfile.proofs.Resolved.{instance_index, level_index}

pub not_false : (b : Bool) → not b ≡ false → b ≡ true
not_false true h = refl
not_false false h = absurd (true≢false h)

pub is_there : {A : Type 0} (o : Option A) → is_none o ≡ false → (x : A) × (o ≡ Some x)
is_there None h = absurd (true≢false h)
is_there (Some x) h = (x, refl)

-- ---- the variant

pub record Known (s : Scope) (x : InstanceText) : Type 0 where
  pub variant : Variant
  pub is : variant_of s.variants x.task.name x.kind ≡ Some variant
  pub required : required_of s x ≡ Some (required_by variant)

pub known : (s : Scope) (i : ℕ) (x : InstanceText) → InstanceKeeps s i x → Known s x
known s i x h =
    let variant = variant_of s.variants x.task.name x.kind in
    let task : has_task s.variants x.task.name ≡ true = not_false (has_task s.variants x.task.name) (unbroken code.NoTask x.task (not (has_task s.variants x.task.name)) h.task) in
    let some = subst (λ b. (b && is_none variant) ≡ false) task (unbroken code.NoVariant x.task (has_task s.variants x.task.name && is_none variant) h.kind) in
    let there = is_there variant some in
    record { variant = there.0; is = there.1; required = ap (option_map required_by) there.1 }

-- ---- names of tunables, calls and sizes

abbrev pub call_name : ItemText → Option Bytes
call_name (Tunable name values) = None
call_name (Call task name) = Some task.name
call_name (Spread word rule) = None

abbrev pub tunable_name : ItemText → Option Bytes
tunable_name (Tunable name values) = Some name.name
tunable_name (Call task name) = None
tunable_name (Spread word rule) = None

abbrev pub size_name : SizeText → Option Bytes
size_name size = Some size.name.name

abbrev pub instance_name : InstanceText → Option Bytes
instance_name x = Some x.name.name

is_call_named : (n : Bytes) (x : ItemText) → is_call n x ≡ has_name (call_name x) n
is_call_named n (Tunable name values) = refl
is_call_named n (Call task name) = refl
is_call_named n (Spread word rule) = refl

is_tunable_named : (n : Bytes) (x : ItemText) → is_tunable n x ≡ has_name (tunable_name x) n
is_tunable_named n (Tunable name values) = refl
is_tunable_named n (Call task name) = refl
is_tunable_named n (Spread word rule) = refl

pub call_first : (items : List ItemText) (n : Bytes) → call_index items n ≡ first_from (λ x. has_name (call_name x) n) 0 items
call_first items n = first_same (is_call n) (λ x. has_name (call_name x) n) (is_call_named n) 0 items

pub tunable_first : (items : List ItemText) (n : Bytes) → tunable_index items n ≡ first_from (λ x. has_name (tunable_name x) n) 0 items
tunable_first items n = first_same (is_tunable n) (λ x. has_name (tunable_name x) n) (is_tunable_named n) 0 items

pub has_call_among : (items : List ItemText) (n : Bytes) → has_call items n ≡ is_among (names call_name items) n
has_call_among items n = ap is_some (call_first items n) ∙ some_first call_name 0 items n

pub has_tunable_among : (items : List ItemText) (n : Bytes) → has_tunable items n ≡ is_among (names tunable_name items) n
has_tunable_among items n = ap is_some (tunable_first items n) ∙ some_first tunable_name 0 items n

pub has_size_among : (sizes : List SizeText) (n : Bytes) → has_size sizes n ≡ is_among (names size_name sizes) n
has_size_among sizes n = some_first size_name 0 sizes n

pub route_tasks : (instances : List InstanceText) (items : List ItemText) → map (λ route. route.task) (routes_of instances items) ≡ names call_name items
route_tasks instances [] = refl
route_tasks instances (Tunable name values ∷ rest) = route_tasks instances rest
route_tasks instances (Spread word rule ∷ rest) = route_tasks instances rest
route_tasks instances (Call task name ∷ rest) = ap (λ ns. task.name ∷ ns) (route_tasks instances rest)

pub tuning_names : (items : List ItemText) → map (λ tuning. tuning.name) (tunings_of items) ≡ names tunable_name items
tuning_names [] = refl
tuning_names (Tunable name values ∷ rest) = ap (λ ns. name.name ∷ ns) (tuning_names rest)
tuning_names (Call task name ∷ rest) = tuning_names rest
tuning_names (Spread word rule ∷ rest) = tuning_names rest

pub set_names : (sizes : List SizeText) → map (λ size. size.name) (map size_set sizes) ≡ names size_name sizes
set_names [] = refl
set_names (size ∷ rest) = ap (λ ns. size.name.name ∷ ns) (set_names rest)

pub calls_once : (n : Inside) → ItemsKeep n 0 n.items → EachOnce (names call_name n.items)
calls_once n h = all_once call_name n.items (λ k x m at is. cases x m k (item_at n 0 n.items h k x at) is)
  where
    cases : (x : ItemText) (m : Bytes) (k : ℕ) → ItemKeeps n (0 + k) x → call_name x ≡ Some m
        → stands_before (first_from (λ y. has_name (call_name y) m) 0 n.items) (0 + k) ≡ false
    cases (Tunable name values) m k h e = absurd (cc)
    cases (Spread word rule) m k h e = absurd (cc)
    cases (Call task name) m k h e =
        let is : task.name ≡ m = cc in
        subst (λ m. stands_before (first_from (λ y. has_name (call_name y) m) 0 n.items) (0 + k) ≡ false) is
        (ap (λ o. stands_before o (0 + k)) (sym (call_first n.items task.name)) ∙ unbroken code.DupItem task (stands_before (call_index n.items task.name) (0 + k)) h.again)

pub tunables_once : (n : Inside) → ItemsKeep n 0 n.items → EachOnce (names tunable_name n.items)
tunables_once n h = all_once tunable_name n.items (λ k x m at is. cases x m k (item_at n 0 n.items h k x at) is)
  where
    cases : (x : ItemText) (m : Bytes) (k : ℕ) → ItemKeeps n (0 + k) x → tunable_name x ≡ Some m
        → stands_before (first_from (λ y. has_name (tunable_name y) m) 0 n.items) (0 + k) ≡ false
    cases (Call task name) m k h e = absurd (cc)
    cases (Spread word rule) m k h e = absurd (cc)
    cases (Tunable name values) m k h e =
        let is : name.name ≡ m = cc in
        subst (λ m. stands_before (first_from (λ y. has_name (tunable_name y) m) 0 n.items) (0 + k) ≡ false) is
        (ap (λ o. stands_before o (0 + k)) (sym (tunable_first n.items name.name)) ∙ unbroken code.DupItem name (stands_before (tunable_index n.items name.name) (0 + k)) h.again)

pub sizes_once : (r : Option Required) (sizes : List SizeText) → SizesKeep r sizes 0 sizes → EachOnce (names size_name sizes)
sizes_once r sizes h = all_once size_name sizes (λ k x m at e.
    let is : x.name.name ≡ m = cc in
    subst (λ m. stands_before (size_index sizes m) (0 + k) ≡ false) is (unbroken code.DupItem x.name (stands_before (size_index sizes x.name.name) (0 + k)) (size_at r sizes 0 sizes h k x at).again))

pub instance_names : (instances : List InstanceText) → map (λ x. x.name.name) instances ≡ names instance_name instances
instance_names [] = refl
instance_names (x ∷ rest) = ap (λ ns. x.name.name ∷ ns) (instance_names rest)

pub instances_once : (s : Scope) → InstancesKeep s 0 s.instances → EachOnce (names instance_name s.instances)
instances_once s h = all_once instance_name s.instances (λ k x m at e.
    let is : x.name.name ≡ m = cc in
    subst (λ m. stands_before (index_of s.instances m) (0 + k) ≡ false) is
    (unbroken code.DupInstance x.name (stands_before (index_of s.instances x.name.name) (0 + k)) (instance_at s 0 s.instances h k x at).again))

pub calls_known : (n : Inside) (r : Required) (i : ℕ) (items : List ItemText) → n.required ≡ Some r → ItemsKeep n i items
    → (name : Bytes) → is_among (names call_name items) name ≡ true → is_among r.calls name ≡ true
calls_known n r i [] e h name given = absurd (true≢false (sym given))
calls_known n r i (Tunable m values ∷ rest) e h name given = calls_known n r (suc i) rest e h.1 name given
calls_known n r i (Spread word rule ∷ rest) e h name given = calls_known n r (suc i) rest e h.1 name given
calls_known n r i (Call task m ∷ rest) e h name given = elim (among_cases task.name (names call_name rest) name given) [
  | inl is ↦ ap (is_among r.calls) is ∙ not_false (is_among r.calls task.name)
      (subst (λ o. is_uncalled o task.name ≡ false) e (unbroken code.CallUnknown task (is_uncalled n.required task.name) h.0.unknown))
  | inr later ↦ calls_known n r (suc i) rest e h.1 name later
]

tunable_there : (r : Required) (name : Bytes) → is_none (lookup (same_name name) r.tunables) ≡ false → is_among (map (λ t. t.0) r.tunables) name ≡ true
tunable_there r name h = let there = is_there (lookup (same_name name) r.tunables) h in keys_of r.tunables name there.0 there.1

pub tunables_known : (n : Inside) (r : Required) (i : ℕ) (items : List ItemText) → n.required ≡ Some r → ItemsKeep n i items
    → (name : Bytes) → is_among (names tunable_name items) name ≡ true → is_among (map (λ t. t.0) r.tunables) name ≡ true
tunables_known n r i [] e h name given = absurd (true≢false (sym given))
tunables_known n r i (Call task m ∷ rest) e h name given = tunables_known n r (suc i) rest e h.1 name given
tunables_known n r i (Spread word rule ∷ rest) e h name given = tunables_known n r (suc i) rest e h.1 name given
tunables_known n r i (Tunable m values ∷ rest) e h name given = elim (among_cases m.name (names tunable_name rest) name given) [
  | inl is ↦ ap (is_among (map (λ t. t.0) r.tunables)) is ∙ tunable_there r m.name
      (subst (λ o. is_no_tunable o m.name ≡ false) e (unbroken code.TunableUnknown m (is_no_tunable n.required m.name) h.0.unknown))
  | inr later ↦ tunables_known n r (suc i) rest e h.1 name later
]

pub sizes_known : (o : Option Required) (r : Required) (whole : List SizeText) (i : ℕ) (sizes : List SizeText) → o ≡ Some r → SizesKeep o whole i sizes
    → (name : Bytes) → is_among (names size_name sizes) name ≡ true → is_among r.sizes name ≡ true
sizes_known o r whole i [] e h name given = absurd (true≢false (sym given))
sizes_known o r whole i (size ∷ rest) e h name given = elim (among_cases size.name.name (names size_name rest) name given) [
  | inl is ↦ ap (is_among r.sizes) is ∙ not_false (is_among r.sizes size.name.name)
      (subst (λ o. is_no_size o size.name.name ≡ false) e (unbroken code.SizeUnknown size.name (is_no_size o size.name.name) h.0.unknown))
  | inr later ↦ sizes_known o r whole (suc i) rest e h.1 name later
]

-- ---- kinds of tunables, and spreads

kind_of : (setting : Setting) (o : Option Bool) → is_none o ≡ false → is_other o setting ≡ false → o ≡ Some (is_list setting)
kind_of setting None some h = absurd (true≢false some)
kind_of setting (Some wants) some h = ap Some ((booleans_Decides wants (is_list setting)).0 (not_false (beq wants (is_list setting)) h))

pub kinds_fit : (n : Inside) (r : Required) (i : ℕ) (items : List ItemText) → n.required ≡ Some r → ItemsKeep n i items
    → (k : ℕ) (tuning : Tuning) → slice_get (tunings_of items) k ≡ Some tuning → lookup (same_name tuning.name) r.tunables ≡ Some (is_list tuning.setting)
kinds_fit n r i [] e h k tuning at = absurd (cc)
kinds_fit n r i (Tunable name values ∷ rest) e h zero tuning at =
    let the_tuning : Tuning = record { name = name.name; setting = values.first } in
    let is : the_tuning ≡ tuning = cc in
    let kind = lookup (same_name name.name) r.tunables in
    subst (λ t. lookup (same_name t.name) r.tunables ≡ Some (is_list t.setting)) is
    (kind_of values.first kind (subst (λ o. is_no_tunable o name.name ≡ false) e (unbroken code.TunableUnknown name (is_no_tunable n.required name.name) h.0.unknown))
    (subst (λ o. is_other_kind o name.name values.first ≡ false) e (unbroken code.TunableKind name (is_other_kind n.required name.name values.first) h.0.kind)))
kinds_fit n r i (Tunable name values ∷ rest) e h (suc k) tuning at = kinds_fit n r (suc i) rest e h.1 k tuning at
kinds_fit n r i (Call task name ∷ rest) e h k tuning at = kinds_fit n r (suc i) rest e h.1 k tuning at
kinds_fit n r i (Spread word rule ∷ rest) e h k tuning at = kinds_fit n r (suc i) rest e h.1 k tuning at

pub leaf_goes_round : (n : Inside) (i : ℕ) (items : List ItemText) → n.kind ≡ Leaf → ItemsKeep n i items → spread_of items ≡ Cyclic
leaf_goes_round n i [] leaf h = refl
leaf_goes_round n i (Tunable name values ∷ rest) leaf h = leaf_goes_round n (suc i) rest leaf h.1
leaf_goes_round n i (Call task name ∷ rest) leaf h = leaf_goes_round n (suc i) rest leaf h.1
leaf_goes_round n i (Spread word rule ∷ rest) leaf h =
    absurd (true≢false (sym (ap is_leaf leaf) ∙ not_there code.SpreadLeaf word.place (is_leaf n.kind) h.0.kind))

-- ---- routes

-- the instance of a name, and its level
pub record Reaches (s : Scope) (name : Word) : Type 0 where
  pub text : InstanceText
  pub of_name : instance_of s.instances name.name ≡ Some text
  pub there : slice_get s.instances (or_zero (index_of s.instances name.name)) ≡ Some text
  pub level : level_of s.levels text.level.name ≡ Some (or_zero (level_of s.levels text.level.name))
  pub index : ℕ
  pub keeps : InstanceKeeps s index text

pub reaches : (s : Scope) (name : Word) → length s.levels < 2 ^ 32 → length s.instances < 2 ^ 32 → InstancesKeep s 0 s.instances → no_instance s.instances name ≡ None → Reaches s name
reaches s name few fit keep h =
    let i = or_zero (index_of s.instances name.name) in
    let index = instance_index s.instances name fit h in
    let at = found_at (λ x. same_name name.name x.name.name) 0 i s.instances index in
    let same_index : at.offset ≡ i = omega (arith, at.is) in
    let there : slice_get s.instances i ≡ Some at.item = ap (slice_get s.instances) (sym same_index) ∙ at.there in
    let kept = instance_at s 0 s.instances keep i at.item there in
    record {
      text = at.item;
      of_name = ap (at_index s.instances) index ∙ there;
      there = there;
      level = level_index s.levels at.item.level few kept.level;
      index = 0 + i;
      keeps = kept;
    }

next_level : (a b : ℕ) → (eqb b a || eqb b (suc a)) ≡ true → (b ≡ a) ⊎ (b ≡ suc a)
next_level a b h = cases (eqb b a) refl h
  where
    cases : (t : Bool) → eqb b a ≡ t → (t || eqb b (suc a)) ≡ true → (b ≡ a) ⊎ (b ≡ suc a)
    cases true e h = inl ((Decides-eqb b a).0 e)
    cases false e h = inr ((Decides-eqb b (suc a)).0 h)

level_fits : (s : Scope) (l : Option ℕ) (a : ℕ) (o : Option ℕ) (b : ℕ) (name : Word) → l ≡ Some a → o ≡ Some b → level_skip l o name ≡ None → (b ≡ a) ⊎ (b ≡ suc a)
level_fits s l a o b name at e h =
    let kept = subst (λ l. is_skip l (Some b) ≡ false) at (subst (λ o. is_skip l o ≡ false) e (unbroken code.LevelSkip name (is_skip l o) h)) in
    next_level a b (not_false (eqb b a || eqb b (suc a)) kept)

-- the instance that a route leads to, from a level
pub record RouteTo (s : Scope) (level : ℕ) (route : Route) : Type 0 where
  pub text : InstanceText
  pub there : slice_get s.instances route.instance ≡ Some text
  pub task : text.task.name ≡ route.task
  pub next : (or_zero (level_of s.levels text.level.name) ≡ level) ⊎ (or_zero (level_of s.levels text.level.name) ≡ suc level)

pub routes_fit : (n : Inside) (level : ℕ) (i : ℕ) (items : List ItemText) → n.level ≡ Some level → length n.scope.levels < 2 ^ 32 → length n.scope.instances < 2 ^ 32
    → InstancesKeep n.scope 0 n.scope.instances → ItemsKeep n i items
    → (k : ℕ) (route : Route) → slice_get (routes_of n.scope.instances items) k ≡ Some route → RouteTo n.scope level route
routes_fit n level i [] e few fit keep h k route at = absurd (cc)
routes_fit n level i (Tunable name values ∷ rest) e few fit keep h k route at = routes_fit n level (suc i) rest e few fit keep h.1 k route at
routes_fit n level i (Spread word rule ∷ rest) e few fit keep h k route at = routes_fit n level (suc i) rest e few fit keep h.1 k route at
routes_fit n level i (Call task name ∷ rest) e few fit keep h zero route at =
    let s = n.scope in
    let to = reaches s name few fit keep h.0.there in
    let the_route : Route = record { task = task.name; instance = or_zero (index_of s.instances name.name) } in
    let is : the_route ≡ route = cc in
    let kind = subst (λ o. is_of_other_task o task.name ≡ false) to.of_name (unbroken code.CallTask name (is_of_other_task (instance_of s.instances name.name) task.name) h.0.kind) in
    let skip = subst (λ o. level_skip n.level (level_at s o) name ≡ None) to.of_name h.0.skip in
    subst (RouteTo s level) is (record {
      text = to.text;
      there = to.there;
      task = sym (same task.name to.text.task.name (not_false (same_name task.name to.text.task.name) kind));
      next = level_fits s n.level level (level_of s.levels to.text.level.name) (or_zero (level_of s.levels to.text.level.name)) name e to.level skip;
    })
routes_fit n level i (Call task name ∷ rest) e few fit keep h (suc k) route at = routes_fit n level (suc i) rest e few fit keep h.1 k route at
