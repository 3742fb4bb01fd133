-- What a choice leaves as it is: all but the settings of tunables.
use Rattle.std.proofs.Common.{◌≡◌, ℕ, zero, suc, Bool, if◌then◌else◌, List, [], ◌∷◌, ◌++◌, length, Option, Some, None, is_some, map, slice_get, option_map, refl, sym, ◌∙◌, ap}
use Rattle.std.specs.Option.{option_and_then}
use Rattle.std.proofs.Math.Path.{fun_ext}
use Rattle.sq_text.specs.Names.{Bytes}
use Rattle.sq_machfile.specs.declared.level.Level.{Level}
use Rattle.sq_mapfile.specs.declared.text.ItemText.{ItemText}
use Rattle.sq_mapfile.specs.declared.text.ItemText.TheVariants.{Tunable, Call, Spread}
use Rattle.sq_mapfile.specs.declared.text.InstanceText.{InstanceText}
use Rattle.sq_mapfile.specs.declared.digits.Digits.{Digits}
use Rattle.sq_mapping.specs.Names.{first_from}
use Rattle.sq_mapfile.specs.Names.{of_each, stands_before, is_tunable, is_call, is_spread, tunable_index, call_index, spread_index, index_of, instance_of}
use Rattle.sq_mapping.specs.Required.{Required}
use Rattle.sq_mapfile.specs.Faults.{Scope, required_at, level_in, is_of_other_task, has_call, has_tunable, missing_call, missing_tunable, first_missing}
use Rattle.sq_mapfile.specs.Cycles.{item_calls, instance_calls, calls_among, call_to}
use Rattle.sq_mapfile.specs.Digits.{past}
use Rattle.sq_mapfile.specs.Choices.{with_items}
use Rattle.sq_mapfile.proofs.Picks.{item_at, item_past, items_at, instance_past, instances_at}
use Rattle.sq_mapfile.proofs.Alone.{index_same}

-- ---- items

module _ (test : ItemText → Bool) (blind : (d : Digits) (x : ItemText) → test (item_at d x) ≡ test x) where
  first_item : (d : Digits) (i : ℕ) (items : List ItemText) → first_from test i (items_at d items) ≡ first_from test i items
  first_item d i [] = refl
  first_item d i (x ∷ rest) =
      ap (λ b. if b then Some i else first_from test (suc i) (items_at (item_past d x) rest)) (blind d x)
      ∙ ap (λ o. if test x then Some i else o) (first_item (item_past d x) (suc i) rest)

pub tunable_same : (d : Digits) (items : List ItemText) (name : Bytes) → tunable_index (items_at d items) name ≡ tunable_index items name
tunable_same d items name = first_item (is_tunable name) blind d 0 items
  where
    blind : (d : Digits) (x : ItemText) → is_tunable name (item_at d x) ≡ is_tunable name x
    blind d (Tunable word its) = refl
    blind d (Call task to) = refl
    blind d (Spread word rule) = refl

pub call_same : (d : Digits) (items : List ItemText) (task : Bytes) → call_index (items_at d items) task ≡ call_index items task
call_same d items task = first_item (is_call task) blind d 0 items
  where
    blind : (d : Digits) (x : ItemText) → is_call task (item_at d x) ≡ is_call task x
    blind d (Tunable word its) = refl
    blind d (Call name to) = refl
    blind d (Spread word rule) = refl

pub spread_index_same : (d : Digits) (items : List ItemText) → spread_index (items_at d items) ≡ spread_index items
spread_index_same d items = first_item is_spread blind d 0 items
  where
    blind : (d : Digits) (x : ItemText) → is_spread (item_at d x) ≡ is_spread x
    blind d (Tunable word its) = refl
    blind d (Call name to) = refl
    blind d (Spread word rule) = refl

pub missing_call_same : (required : Option Required) (d : Digits) (items : List ItemText) → missing_call required (items_at d items) ≡ missing_call required items
missing_call_same None d items = refl
missing_call_same (Some r) d items =
    let given : has_call (items_at d items) ≡ has_call items = fun_ext (λ task. ap is_some (call_same d items task)) in
    ap (λ (g : Bytes → Bool). first_missing g r.calls) given

pub missing_tunable_same : (required : Option Required) (d : Digits) (items : List ItemText) → missing_tunable required (items_at d items) ≡ missing_tunable required items
missing_tunable_same None d items = refl
missing_tunable_same (Some r) d items =
    let given : has_tunable (items_at d items) ≡ has_tunable items = fun_ext (λ name. ap is_some (tunable_same d items name)) in
    ap (λ (g : Bytes → Bool). first_missing g (map (λ t. t.0) r.tunables)) given

-- ---- instances

pub as_long : (d : Digits) (xs : List InstanceText) → length (instances_at d xs) ≡ length xs
as_long d [] = refl
as_long d (x ∷ xs) = ap suc (as_long (instance_past d x) xs)

-- an instance but for its items
abbrev bare : InstanceText → InstanceText
bare x = with_items x []

bare_at : (d : Digits) (xs : List InstanceText) (k : ℕ) → option_map bare (slice_get (instances_at d xs) k) ≡ option_map bare (slice_get xs k)
bare_at d [] k = refl
bare_at d (x ∷ xs) zero = refl
bare_at d (x ∷ xs) (suc k) = bare_at (instance_past d x) xs k

bare_named : (d : Digits) (xs : List InstanceText) (name : Bytes) → option_map bare (instance_of (instances_at d xs) name) ≡ option_map bare (instance_of xs name)
bare_named d xs name =
    ap (λ o. option_map bare (option_and_then (slice_get (instances_at d xs)) o)) (index_same d xs name) ∙ by_index (index_of xs name)
  where
    by_index : (o : Option ℕ) → option_map bare (option_and_then (slice_get (instances_at d xs)) o) ≡ option_map bare (option_and_then (slice_get xs) o)
    by_index None = refl
    by_index (Some k) = bare_at d xs k

-- what looks at no items is the same of an instance with others
module _ {X : Type 0} (see : Option InstanceText → X) (blind : (o : Option InstanceText) → see o ≡ see (option_map bare o)) where
  seen_same : (d : Digits) (xs : List InstanceText) (name : Bytes) → see (instance_of (instances_at d xs) name) ≡ see (instance_of xs name)
  seen_same d xs name =
      blind (instance_of (instances_at d xs) name) ∙ ap see (bare_named d xs name) ∙ sym (blind (instance_of xs name))

pub level_same : (levels : List Level) (d : Digits) (xs : List InstanceText) (name : Bytes) → level_in levels (instance_of (instances_at d xs) name) ≡ level_in levels (instance_of xs name)
level_same levels d xs name = seen_same (level_in levels) blind d xs name
  where
    blind : (o : Option InstanceText) → level_in levels o ≡ level_in levels (option_map bare o)
    blind None = refl
    blind (Some x) = refl

pub task_same : (task : Bytes) (d : Digits) (xs : List InstanceText) (name : Bytes)
    → is_of_other_task (instance_of (instances_at d xs) name) task ≡ is_of_other_task (instance_of xs name) task
task_same task d xs name = seen_same (λ o. is_of_other_task o task) blind d xs name
  where
    blind : (o : Option InstanceText) → is_of_other_task o task ≡ is_of_other_task (option_map bare o) task
    blind None = refl
    blind (Some x) = refl

pub required_same : (s : Scope) (d : Digits) (xs : List InstanceText) (name : Bytes) → required_at s (instance_of (instances_at d xs) name) ≡ required_at s (instance_of xs name)
required_same s d xs name = seen_same (required_at s) blind d xs name
  where
    blind : (o : Option InstanceText) → required_at s o ≡ required_at s (option_map bare o)
    blind None = refl
    blind (Some x) = refl

-- ---- calls

module _ (new old : List InstanceText) (same : (name : Bytes) → index_of new name ≡ index_of old name) where
  items_calls : (caller : ℕ) (whole_new whole_old : List ItemText) → ((task : Bytes) → call_index whole_new task ≡ call_index whole_old task)
      → (d : Digits) (k : ℕ) (items : List ItemText) → of_each (item_calls new caller whole_new) k (items_at d items) ≡ of_each (item_calls old caller whole_old) k items
  items_calls caller whole_new whole_old first d k [] = refl
  items_calls caller whole_new whole_old first d k (Tunable name its ∷ rest) = items_calls caller whole_new whole_old first (past d its) (suc k) rest
  items_calls caller whole_new whole_old first d k (Spread word rule ∷ rest) = items_calls caller whole_new whole_old first d (suc k) rest
  items_calls caller whole_new whole_old first d k (Call task name ∷ rest) =
      ap (λ o. (if stands_before o k then [] else call_to caller (index_of new name.name) name) ++ of_each (item_calls new caller whole_new) (suc k) (items_at d rest)) (first task.name)
      ∙ ap (λ o. (if stands_before (call_index whole_old task.name) k then [] else call_to caller o name) ++ of_each (item_calls new caller whole_new) (suc k) (items_at d rest)) (same name.name)
      ∙ ap (λ l. (if stands_before (call_index whole_old task.name) k then [] else call_to caller (index_of old name.name) name) ++ l) (items_calls caller whole_new whole_old first d (suc k) rest)

  instances_calls : (d : Digits) (i : ℕ) (xs : List InstanceText) → of_each (instance_calls new) i (instances_at d xs) ≡ of_each (instance_calls old) i xs
  instances_calls d i [] = refl
  instances_calls d i (x ∷ xs) =
      ap (λ o. (if stands_before o i then [] else of_each (item_calls new i (items_at d x.items)) 0 (items_at d x.items)) ++ of_each (instance_calls new) (suc i) (instances_at (instance_past d x) xs)) (same x.name.name)
      ∙ ap (λ l. (if stands_before (index_of old x.name.name) i then [] else l) ++ of_each (instance_calls new) (suc i) (instances_at (instance_past d x) xs))
      (items_calls i (items_at d x.items) x.items (call_same d x.items) d 0 x.items)
      ∙ ap (λ l. (if stands_before (index_of old x.name.name) i then [] else of_each (item_calls old i x.items) 0 x.items) ++ l) (instances_calls (instance_past d x) (suc i) xs)

pub calls_same : (d : Digits) (xs : List InstanceText) → calls_among (instances_at d xs) ≡ calls_among xs
calls_same d xs = instances_calls (instances_at d xs) xs (index_same d xs) d 0 xs
