-- Which acts depend on one another.
use Rattle.std.specs.Prelude.{◌≡◌, ℕ, ◌+◌, ◌<◌, ◌^◌, ◌⊎◌, Bool, true, false, Option, Some, None, List, [], ◌∷◌}
use Rattle.sq_areas.specs.Areas.{reach_of, Share}
use Rattle.sq_check_laws.specs.Touches.{Kind, agree, same_numbers}
use Rattle.sq_check_laws.specs.Touches as kind
use Rattle.sq_touches.specs.declared.touch.Way.{Way}
use Rattle.sq_touches.specs.declared.touch.Way.TheVariants as way
use Rattle.sq_touches.specs.declared.touch.Touch.{Touch}
use Rattle.sq_touches.specs.declared.act.Act.{Act}

abbrev pub seen_way : Way → Kind
seen_way way.Reads = kind.Reads
seen_way (way.Adds op elem place) = kind.Adds op elem place
seen_way way.Writes = kind.Writes

-- what the bytes reach over has a word
abbrev pub IsNear : Touch → Type 0
IsNear x = x.area.at + reach_of x.area.steps x.area.run < 2 ^ 63

abbrev pub AreNear : List Touch → Type 0
AreNear [] = Unit {0}
AreNear (x ∷ xs) = IsNear x × AreNear xs

-- a byte of one node is touched in two ways that don't agree
pub record Conflict (x y : Touch) : Type 0 where
  pub node : x.node ≡ y.node
  pub ways : agree (seen_way x.way) (seen_way y.way) ≡ false
  pub share : Share x.area.at x.area.run x.area.steps y.area

abbrev pub ConflictAny : Touch → List Touch → Type 0
ConflictAny x [] = ⊥
ConflictAny x (y ∷ ys) = Conflict x y ⊎ ConflictAny x ys

abbrev pub ConflictAll : List Touch → List Touch → Type 0
ConflictAll [] ys = ⊥
ConflictAll (x ∷ xs) ys = ConflictAny x ys ⊎ ConflictAll xs ys

abbrev pub same_paths : Option (List ℕ) → Option (List ℕ) → Bool
same_paths None q = false
same_paths (Some p) None = false
same_paths (Some p) (Some q) = same_numbers p q

-- they are in conflict at a byte, or are leaf calls of one path
abbrev pub Depend : Act → Act → Type 0
Depend a b = ConflictAll a.touches b.touches ⊎ (same_paths a.path b.path ≡ true)
