-- The mapping of a choice is what the text of the choice resolves to.
use Rattle.std.proofs.Common.{◌≡◌, ℕ, suc, ◌+◌, List, [], ◌∷◌, length, map, Option, Some, slice_get, if◌then◌else◌, refl, sym, ◌∙◌, ap, arith}
use Rattle.sq_machfile.specs.declared.level.Level.{Level}
use Rattle.sq_text.specs.Names.{Bytes, same_name}
use Rattle.sq_text.specs.declared.spread.SpreadRule.{SpreadRule}
use Rattle.sq_mapping.specs.declared.mapping.Setting.{Setting}
use Rattle.sq_mapping.specs.declared.mapping.Tuning.{Tuning}
use Rattle.sq_mapping.specs.declared.mapping.Route.{Route}
use Rattle.sq_mapping.specs.declared.mapping.SizeSet.{SizeSet}
use Rattle.sq_mapping.specs.declared.mapping.Instance.{Instance}
use Rattle.sq_mapping.specs.declared.mapping.Mapping.{Mapping}
use Rattle.sq_mapfile.specs.declared.text.ItemText.{ItemText}
use Rattle.sq_mapfile.specs.declared.text.ItemText.TheVariants.{Tunable, Call, Spread}
use Rattle.sq_mapfile.specs.declared.text.InstanceText.{InstanceText}
use Rattle.sq_mapfile.specs.declared.text.MappingText.{MappingText}
use Rattle.sq_mapfile.specs.declared.tunings.Ways.{Ways}
use Rattle.sq_mapfile.specs.declared.digits.Digits.{Digits}
use Rattle.sq_mapping.specs.Names.{first_from}
use Rattle.sq_mapfile.specs.Names.{index_of, level_of}
use Rattle.sq_mapfile.specs.Mappings.{tunings_of, spread_of, size_set}
use Rattle.sq_mapfile.specs.Resolving.{or_zero, routes_of, instance_with, mapping_with}
use Rattle.sq_mapfile.specs.Digits.{pick, past}
use Rattle.sq_mapfile.specs.Choices.{choices_of}
use Rattle.sq_mapfile.specs.Chosen.{ways_of, listed, tunings_at, all_past, with_tunings, mapping_at}
use Rattle.sq_mapfile.specs.Chosen as chosen
use Rattle.sq_mapfile.proofs.Products.{digits}
use Rattle.sq_mapfile.proofs.Picks.{items_at, items_past, instance_at, instance_past, instances_at, text_at, choice_is}

-- ---- names stay

pub index_from : (name : Bytes) (d : Digits) (i : ℕ) (xs : List InstanceText)
    → first_from (λ (x : InstanceText). same_name name x.name.name) i (instances_at d xs) ≡ first_from (λ (x : InstanceText). same_name name x.name.name) i xs
index_from name d i [] = refl
index_from name d i (x ∷ xs) = ap (λ o. if same_name name x.name.name then Some i else o) (index_from name (instance_past d x) (suc i) xs)

pub index_same : (d : Digits) (xs : List InstanceText) (name : Bytes) → index_of (instances_at d xs) name ≡ index_of xs name
index_same d xs name = index_from name d 0 xs

-- ---- items

abbrev tuning : Bytes → Setting → Tuning
tuning name setting = record { name = name; setting = setting }

tunings_same : (d : Digits) (items : List ItemText) → tunings_of (items_at d items) ≡ tunings_at d (ways_of items)
tunings_same d [] = refl
tunings_same d (Tunable name its ∷ rest) = ap (λ ts. tuning name.name (pick d its) ∷ ts) (tunings_same (past d its) rest)
tunings_same d (Call task name ∷ rest) = tunings_same d rest
tunings_same d (Spread word rule ∷ rest) = tunings_same d rest

past_same : (d : Digits) (items : List ItemText) → all_past d (ways_of items) ≡ items_past d items
past_same d [] = refl
past_same d (Tunable name its ∷ rest) = past_same (past d its) rest
past_same d (Call task name ∷ rest) = past_same d rest
past_same d (Spread word rule ∷ rest) = past_same d rest

abbrev route : Bytes → Option ℕ → Route
route task to = record { task = task; instance = or_zero to }

routes_same : (new old : List InstanceText) → ((name : Bytes) → index_of new name ≡ index_of old name) → (d : Digits) (items : List ItemText)
    → routes_of new (items_at d items) ≡ routes_of old items
routes_same new old same d [] = refl
routes_same new old same d (Tunable name its ∷ rest) = routes_same new old same (past d its) rest
routes_same new old same d (Call task name ∷ rest) =
    ap (λ o. route task.name o ∷ routes_of new (items_at d rest)) (same name.name) ∙ ap (λ rs. route task.name (index_of old name.name) ∷ rs) (routes_same new old same d rest)
routes_same new old same d (Spread word rule ∷ rest) = routes_same new old same d rest

pub spread_same : (d : Digits) (items : List ItemText) → spread_of (items_at d items) ≡ spread_of items
spread_same d [] = refl
spread_same d (Tunable name its ∷ rest) = spread_same (past d its) rest
spread_same d (Call task name ∷ rest) = spread_same d rest
spread_same d (Spread word rule ∷ rest) = refl

-- ---- instances

abbrev ways_in : InstanceText → List Ways
ways_in x = ways_of x.items

abbrev made_of : List Level → InstanceText → List Tuning → List Route → SpreadRule → Instance
made_of levels x tunings routes spread =
    record { name = x.name.name; task = x.task.name; kind = x.kind; level = or_zero (level_of levels x.level.name); tunings = tunings; routes = routes; spread = spread }

instance_same : (levels : List Level) (new old : List InstanceText) → ((name : Bytes) → index_of new name ≡ index_of old name) → (d : Digits) (x : InstanceText)
    → instance_with levels new (instance_at d x) ≡ with_tunings (instance_with levels old x) (tunings_at d (ways_in x))
instance_same levels new old same d x =
    ap (λ ts. made_of levels x ts (routes_of new (items_at d x.items)) (spread_of (items_at d x.items))) (tunings_same d x.items)
    ∙ ap (λ rs. made_of levels x (tunings_at d (ways_in x)) rs (spread_of (items_at d x.items))) (routes_same new old same d x.items)
    ∙ ap (λ s. made_of levels x (tunings_at d (ways_in x)) (routes_of old x.items) s) (spread_same d x.items)

module _ (levels : List Level) (new old : List InstanceText) (same : (name : Bytes) → index_of new name ≡ index_of old name) (all : List (List Ways)) where
  instances_same : (d : Digits) (i : ℕ) (xs : List InstanceText) → ((k : ℕ) → slice_get all (i + k) ≡ slice_get (map ways_in xs) k)
      → chosen.instances_at all d i (map (instance_with levels old) xs) ≡ map (instance_with levels new) (instances_at d xs)
  instances_same d i [] h = refl
  instances_same d i (x ∷ xs) h =
      let zeroth : i ≡ i + 0 = omega arith in
      let its : listed (slice_get all i) ≡ ways_in x = ap (λ k. listed (slice_get all k)) zeroth ∙ ap listed (h 0) in
      ap (λ ws. with_tunings (instance_with levels old x) (tunings_at d ws) ∷ chosen.instances_at all (all_past d ws) (suc i) (map (instance_with levels old) xs)) its
      ∙ ap (λ y. y ∷ chosen.instances_at all (all_past d (ways_in x)) (suc i) (map (instance_with levels old) xs)) (sym (instance_same levels new old same d x))
      ∙ ap (λ e. instance_with levels new (instance_at d x) ∷ chosen.instances_at all e (suc i) (map (instance_with levels old) xs)) (past_same d x.items)
      ∙ ap (λ ys. instance_with levels new (instance_at d x) ∷ ys) (instances_same (instance_past d x) (suc i) xs (λ k. next k))
    where
      next : (k : ℕ) → slice_get all (suc i + k) ≡ slice_get (map ways_in xs) k
      next k = let later : suc i + k ≡ i + suc k = omega arith in ap (slice_get all) later ∙ h (suc k)

abbrev mapping_of : ℕ → List SizeSet → List Instance → Mapping
mapping_of entry sizes instances = record { entry = entry; sizes = sizes; instances = instances }

-- what is picked is resolved to the mapping with what is picked
pub picked_mapping : (levels : List Level) (m : MappingText) (count n : ℕ)
    → mapping_at (mapping_with levels m) (map ways_in m.instances) count n ≡ mapping_with levels (text_at m (digits n count))
picked_mapping levels m count n =
    let d = digits n count in
    let new = instances_at d m.instances in
    ap (λ xs. mapping_of (or_zero (index_of m.instances m.entry.name)) (map size_set m.sizes) xs)
    (instances_same levels new m.instances (index_same d m.instances) (map ways_in m.instances) d 0 m.instances (λ k. let e : 0 + k ≡ k = omega arith in ap (slice_get (map ways_in m.instances)) e))
    ∙ ap (λ o. mapping_of (or_zero o) (map size_set m.sizes) (map (instance_with levels new) new)) (sym (index_same d m.instances m.entry.name))

-- the mapping of a choice is that of its text
pub mapping_is : (levels : List Level) (m : MappingText) (n : ℕ) (text : MappingText) → slice_get (choices_of m) n ≡ Some text
    → mapping_at (mapping_with levels m) (map ways_in m.instances) (length (choices_of m)) n ≡ mapping_with levels text
mapping_is levels m n text there = picked_mapping levels m (length (choices_of m)) n ∙ ap (mapping_with levels) (sym (choice_is m n text there))
