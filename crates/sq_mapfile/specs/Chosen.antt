-- The mapping of a choice, made from that of the first choice and from the alternatives of its tunables.
use Rattle.std.specs.Prelude.{ℕ, Bool, true, false, suc, List, [], ◌∷◌, Option, Some, None, slice_get}
use Rattle.sq_mapping.specs.declared.mapping.Setting.{Setting}
use Rattle.sq_mapping.specs.declared.mapping.Tuning.{Tuning}
use Rattle.sq_mapping.specs.declared.mapping.Instance.{Instance}
use Rattle.sq_mapping.specs.declared.mapping.Mapping.{Mapping}
use Rattle.sq_mapfile.specs.declared.text.ItemText.{ItemText}
use Rattle.sq_mapfile.specs.declared.text.ItemText.TheVariants.{Tunable}
use Rattle.sq_mapfile.specs.declared.tunings.Ways.{Ways}
use Rattle.sq_mapfile.specs.declared.digits.Digits.{Digits}
use Rattle.sq_mapfile.specs.Digits.{pick, past}

-- the tunables among these items, with their alternatives
abbrev pub ways_of : List ItemText → List Ways
ways_of [] = []
ways_of (Tunable name values ∷ rest) = record { name = name.name; values = values } ∷ ways_of rest
ways_of (_ ∷ rest) = ways_of rest

abbrev pub listed : Option (List Ways) → List Ways
listed None = []
listed (Some list) = list

abbrev pub some_others : List Setting → Bool
some_others [] = false
some_others (_ ∷ _) = true

abbrev pub more_than_one : Option Ways → Bool
more_than_one None = false
more_than_one (Some ways) = some_others ways.values.others

-- this tunable of this instance has more than one alternative
abbrev pub is_varied : List (List Ways) → (instance tuning : ℕ) → Bool
is_varied all instance tuning = more_than_one (slice_get (listed (slice_get all instance)) tuning)

abbrev pub tuning_at : Digits → Ways → Tuning
tuning_at d t = record { name = t.name; setting = pick d t.values }

-- these tunables, each with its alternative in the choice
abbrev pub tunings_at : Digits → List Ways → List Tuning
tunings_at d [] = []
tunings_at d (t ∷ rest) = tuning_at d t ∷ tunings_at (past d t.values) rest

-- what is left of the choice behind these tunables
abbrev pub all_past : Digits → List Ways → Digits
all_past d [] = d
all_past d (t ∷ rest) = all_past (past d t.values) rest

abbrev pub with_tunings : Instance → List Tuning → Instance
with_tunings x tunings = record { name = x.name; task = x.task; kind = x.kind; level = x.level; tunings = tunings; routes = x.routes; spread = x.spread }

-- these instances, of which the first has this index, each with its tunables' alternatives in the choice
abbrev pub instances_at : List (List Ways) → Digits → ℕ → List Instance → List Instance
instances_at all d i [] = []
instances_at all d i (x ∷ rest) =
    with_tunings x (tunings_at d (listed (slice_get all i))) ∷ instances_at all (all_past d (listed (slice_get all i))) (suc i) rest

-- the mapping of this choice of so many
abbrev pub mapping_at : Mapping → List (List Ways) → (count n : ℕ) → Mapping
mapping_at first all count n = record {
  entry = first.entry;
  sizes = first.sizes;
  instances = instances_at all (record { number = n; choices = count }) 0 first.instances;
}
