-- Extents within the limits of arrays.
use Rattle.std.specs.Prelude.{◌≡◌, ℕ, ◌<◌, ◌≤◌, List, Some, slice_get}
use Rattle.std.specs.List.{All}
use Rattle.sq_rect.specs.Extents.{product}
use Rattle.sq_forms.specs.Decls.{most_elements}
use Rattle.sq_plan_laws.specs.Seated.{HasDims}

-- one to three dimensions, of which none is empty, and not too many elements
pub record IsSized (extents : List ℕ) : Type 0 where
  pub dims : HasDims extents
  pub some : All (λ k. 0 < k) extents
  pub few : product extents ≤ most_elements

abbrev pub AreSized : List (List ℕ) → Type 0
AreSized arrays = (i : ℕ) (extents : List ℕ) → slice_get arrays i ≡ Some extents → IsSized extents
