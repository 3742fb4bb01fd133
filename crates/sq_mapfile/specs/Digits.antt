-- The number of a choice, taken apart tunable by tunable. No clause of another crate's speaks of it.
use Rattle.std.specs.Prelude.{ℕ, ◌+◌, ◌-◌, ◌/◌, ◌%◌, ◌==◌, max, [], ◌∷◌, length, if◌then◌else◌, Option, Some, None, slice_get}
use Rattle.sq_mapping.specs.declared.mapping.Setting.{Setting}
use Rattle.sq_mapfile.specs.declared.text.Alternatives.{Alternatives}
use Rattle.sq_mapfile.specs.declared.digits.Digits.{Digits}

-- of so many choices those behind a tunable of so many further alternatives
abbrev pub behind : (choices others : ℕ) → ℕ
behind choices others = max (choices / (others + 1)) 1

abbrev pub setting_or : Setting → Option Setting → Setting
setting_or first None = first
setting_or first (Some setting) = setting

abbrev pub alternative : Alternatives → ℕ → Setting
alternative values at = if at == 0 then values.first else setting_or values.first (slice_get values.others (at - 1))

abbrev pub pick : Digits → Alternatives → Setting
pick d values = alternative values (d.number / behind d.choices (length values.others))

abbrev pub past : Digits → Alternatives → Digits
past d values = record {
  number = d.number % behind d.choices (length values.others);
  choices = behind d.choices (length values.others);
}
