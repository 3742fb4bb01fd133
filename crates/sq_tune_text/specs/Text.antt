-- The text of a table: a line for each choice, and one for the best.
--
-- choice 0 top.U=2 traffic 64
-- choice 1 top.U=8 refused capacity Capacity core 64 32
-- best 0 traffic 64
use Rattle.std.specs.Prelude.{ℕ, ℤ, List, [], ◌∷◌, ◌++◌, if◌then◌else◌, Option, Some, None, slice_get, codes}
use Rattle.std.specs.List.{flat_map}
use Rattle.std.specs.Fmt.{signed_decimal}
use Rattle.sq_report.specs.Reports.{field, numbered}
use Rattle.sq_report.specs.Answers.{fault_line}
use Rattle.sq_mapping.specs.declared.mapping.Setting.{Setting}
use Rattle.sq_mapping.specs.declared.mapping.Setting.TheVariants.{One, Many}
use Rattle.sq_mapping.specs.declared.mapping.Tuning.{Tuning}
use Rattle.sq_mapping.specs.declared.mapping.Instance.{Instance}
use Rattle.sq_mapfile.specs.declared.tunings.Ways.{Ways}
use Rattle.sq_mapfile.specs.declared.choices.Choices.{Choices}
use Rattle.sq_mapfile.specs.Chosen.{is_varied}
use Rattle.sq_mapfile.specs.Made.{mapping_of}
use Rattle.sq_tune.specs.declared.row.RowEnd.{RowEnd}
use Rattle.sq_tune.specs.declared.row.RowEnd.TheVariants.{Traffic, Refused}
use Rattle.sq_tune.specs.declared.row.Table.{Table}

-- ---- settings

abbrev pub next_value : ℤ → List ℕ
next_value v = codes "," ++ signed_decimal v

-- `[0,3]`
abbrev pub list_text : List ℤ → List ℕ
list_text [] = codes "[]"
list_text (v ∷ vs) = codes "[" ++ signed_decimal v ++ flat_map next_value vs ++ codes "]"

-- `-1` or `[0,3]`
abbrev pub setting_text : Setting → List ℕ
setting_text (One v) = signed_decimal v
setting_text (Many vs) = list_text vs

-- ` top.U=4`
abbrev pub told_text : (instance : List ℕ) → Tuning → List ℕ
told_text instance tuning = codes " " ++ instance ++ codes "." ++ tuning.name ++ codes "=" ++ setting_text tuning.setting

-- of this tunable of an instance of this number and name, where it has more than one alternative
abbrev pub tuning_text : List (List Ways) → (i : ℕ) → (instance : List ℕ) → (k : ℕ) → Tuning → List ℕ
tuning_text tunables i instance k tuning = if is_varied tunables i k then told_text instance tuning else []

abbrev pub instance_text : List (List Ways) → (i : ℕ) → Instance → List ℕ
instance_text tunables i x = numbered (tuning_text tunables i x.name) 0 x.tunings

-- of a choice the settings of all tunables that have more than one alternative, in the order of the text
abbrev pub settings_text : Choices → (n : ℕ) → List ℕ
settings_text choices n = numbered (instance_text choices.tunables) 0 (mapping_of choices n).instances

-- ---- lines

-- ` traffic 64`
abbrev pub traffic_text : ℕ → List ℕ
traffic_text traffic = field (codes " traffic ") traffic

-- the rest of a choice's line
abbrev pub row_text : RowEnd → List ℕ
row_text (Traffic traffic) = traffic_text traffic ++ codes "\n"
row_text (Refused its) = codes " " ++ fault_line its

-- `choice 0 top.U=2`
abbrev pub choice_text : Choices → (n : ℕ) → List ℕ
choice_text choices n = field (codes "choice ") n ++ settings_text choices n

abbrev pub choice_line : Choices → (n : ℕ) → RowEnd → List ℕ
choice_line choices n row = choice_text choices n ++ row_text row

abbrev pub accepted_text : Option RowEnd → List ℕ
accepted_text (Some (Traffic traffic)) = traffic_text traffic
accepted_text _ = []

-- `best 0 traffic 64`, with the traffic of the best row, or `best none`
abbrev pub best_line : List RowEnd → Option ℕ → List ℕ
best_line rows None = codes "best none\n"
best_line rows (Some n) = field (codes "best ") n ++ accepted_text (slice_get rows n) ++ codes "\n"

abbrev pub table_text : Choices → Table → List ℕ
table_text choices table = numbered (choice_line choices) 0 table.rows ++ best_line table.rows table.best
