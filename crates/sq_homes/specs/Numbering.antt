-- The numbers of buffers: a form's stand behind those of the forms before it, in the order of its arrays.
use Rattle.std.specs.Prelude.{ℕ, suc, ◌+◌, ◌==◌, ◌≤◌, ◌<◌, false, List, [], ◌∷◌, map, length, get_or, if◌then◌else◌}
use Rattle.std.specs.List.{range_with_len}
use Rattle.sq_text.specs.declared.spread.SpreadRule.{SpreadRule}
use Rattle.sq_chosen.specs.SpecLaws.Spec.declared.body.FormBody.{FormBody}
use Rattle.sq_draft.specs.Placed.declared.home.Home.{Home}
use Rattle.sq_draft.specs.Placed.declared.home.Home.TheVariants.{InPlace, Own, Held, Twin}
use Rattle.sq_draft.specs.Placed.declared.home.Homes.{Homes}
use Rattle.sq_chosen.specs.declared.choice.Choice.{Choice}
use Rattle.sq_chosen.specs.Arrays.{left_by, hoisted, others, again, locals_count}

abbrev pub position : ℕ → List ℕ → ℕ
position i [] = 0
position i (j ∷ js) = if i == j then 0 else suc (position i js)

-- base: the number of the form's first buffer
abbrev pub moved_home : (base : ℕ) → Choice → ℕ → Home
moved_home base c i =
    let first = base + length (hoisted c) + position i (others c) in
    if c.overlaps then Twin first (first + length (others c)) else Own first

abbrev pub home_of : (base : ℕ) → Choice → ℕ → Home
home_of base c i =
    if get_or c.in_place i false then InPlace else
    (if left_by c i == 0 then moved_home base c i else Held (base + position i (hoisted c)) (left_by c i))

abbrev pub local_base : (base : ℕ) → Choice → ℕ
local_base base c = base + length (hoisted c) + length (others c) + length (again c)

-- code: the number of a leaf's code
abbrev pub form_homes : (base : ℕ) → SpreadRule → (code : ℕ) → FormBody → Choice → Homes
form_homes base rule code b c = record {
  rule = rule;
  code = code;
  params = map (home_of base c) (range_with_len 0 (length c.in_place));
  locals = range_with_len (local_base base c) (locals_count b.arrays c);
  overlaps = c.overlaps;
}

-- ---- where buffers' numbers lie

-- the home's buffers are among these many from base on
abbrev pub IsNumberIn : (base n b : ℕ) → Type 0
IsNumberIn base n b = (base ≤ b) × (b < base + n)

abbrev pub IsHomeIn : (base n : ℕ) → Home → Type 0
IsHomeIn base n InPlace = Unit {0}
IsHomeIn base n (Own b) = IsNumberIn base n b
IsHomeIn base n (Held b loops) = IsNumberIn base n b
IsHomeIn base n (Twin b c) = IsNumberIn base n b × IsNumberIn base n c
