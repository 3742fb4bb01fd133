-- The maps of a variant, by their numbers and by where they stand in the text.
use Rattle.std.specs.Prelude.{◌≡◌, ℕ, ◌<◌, ◌≤◌, ◌⊎◌, List, slice_get, Some}
use Rattle.sq_text.specs.Places.{IsBefore}
use Rattle.sq_ast.specs.Given.{IsGiven}
use Rattle.sq_ast.specs.declared.program.Program.{Program}
use Rattle.sq_ast.specs.declared.program.Variant.{Variant}
use Rattle.sq_spec.specs.declared.resolved.Resolved.{Resolved}
use Rattle.sq_race.specs.Least.{IsLess}
use Rattle.sq_race.specs.Race.{maps_by, variant_in, told, HoldsAt, IsFirstRace}
use Rattle.sq_race.specs.declared.forms.Found.{Found}
use Rattle.sq_race.specs.declared.map.Map.{Map}
use Rattle.sq_race.specs.declared.race.Race.{Race}

-- two maps of a variant of the program, by their numbers
pub record AreMaps (p : Program) (i j : ℕ) (one other : Map) : Type 0 where
  pub number : ℕ
  pub variant : Variant
  pub variant_is : slice_get p.tasks number ≡ Some variant
  pub one_is : slice_get (maps_by (Some variant)) i ≡ Some one
  pub other_is : slice_get (maps_by (Some variant)) j ≡ Some other

-- in a program that a text gives, the map with the lesser number stands before the other
abbrev pub InTextOrder : Type 0
InTextOrder = (p : Program) → IsGiven p → (i j : ℕ) (one other : Map) → AreMaps p i j one other → i < j → IsBefore one.place other.place

-- so the one that stands first has the lesser number
abbrev pub NumberedInTextOrder : Type 0
NumberedInTextOrder = (p : Program) → IsGiven p → (i j : ℕ) (one other : Map) → AreMaps p i j one other → IsBefore one.place other.place → i < j

-- and no two stand at one place
abbrev pub StandApart : Type 0
StandApart = (p : Program) → IsGiven p → (i j : ℕ) (one other : Map) → AreMaps p i j one other → one.place ≡ other.place → i ≡ j

-- ---- the first race

-- by where the map stands in the text, then by the numbers of the maps round it, then by the later access,
-- then by the earlier one
abbrev pub StandsAtOrBefore : Map → List ℕ → Found → Map → List ℕ → Found → Type 0
StandsAtOrBefore m r x n s y =
    IsBefore m.place n.place ⊎ ((m.place ≡ n.place) × (
    IsLess r s ⊎ ((r ≡ s) × (
    (x.later < y.later) ⊎ ((x.later ≡ y.later) × (x.earlier ≤ y.earlier))))))

-- this is told of a race, and none is before it: by form, and then by the text
pub record IsFirstInText (r : Resolved) (race : Race) : Type 0 where
  pub form : ℕ
  pub round : List ℕ
  pub found : Found
  pub holds : HoldsAt r form round found
  pub is : race ≡ told form (variant_in r holds.of) holds.holds.map holds.holds.a holds.holds.b
  pub least : (n : ℕ) (s : List ℕ) (y : Found) → (other : HoldsAt r n s y)
      → (form < n) ⊎ ((form ≡ n) × StandsAtOrBefore holds.holds.map round found other.holds.map s y)

-- the first race by the numbers of the maps is the first by where they stand
abbrev pub FirstInText : Type 0
FirstInText = (r : Resolved) → IsGiven r.typed.now → (race : Race) → IsFirstRace r (Some race) → IsFirstInText r race
