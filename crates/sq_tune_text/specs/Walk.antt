-- The settings of a choice, told tunable by tunable while its number is taken apart. No public clause speaks of it.
use Rattle.std.specs.Prelude.{ℕ, suc, List, [], ◌∷◌, ◌++◌, if◌then◌else◌, slice_get}
use Rattle.sq_mapping.specs.declared.mapping.Instance.{Instance}
use Rattle.sq_mapfile.specs.declared.tunings.Ways.{Ways}
use Rattle.sq_mapfile.specs.declared.digits.Digits.{Digits}
use Rattle.sq_mapfile.specs.Digits.{past}
use Rattle.sq_mapfile.specs.Chosen.{some_others, listed, tuning_at, all_past}
use Rattle.sq_tune_text.specs.Text.{told_text}

abbrev pub way_text : (instance : List ℕ) → Digits → Ways → List ℕ
way_text instance d ways = if some_others ways.values.others then told_text instance (tuning_at d ways) else []

-- the tunables of an instance
abbrev pub ways_text : (instance : List ℕ) → Digits → List Ways → List ℕ
ways_text instance d [] = []
ways_text instance d (ways ∷ rest) = way_text instance d ways ++ ways_text instance (past d ways.values) rest

-- and of these instances, of which the first has this index
abbrev pub walk_text : List (List Ways) → Digits → ℕ → List Instance → List ℕ
walk_text all d i [] = []
walk_text all d i (x ∷ rest) =
    ways_text x.name d (listed (slice_get all i)) ++ walk_text all (all_past d (listed (slice_get all i))) (suc i) rest
