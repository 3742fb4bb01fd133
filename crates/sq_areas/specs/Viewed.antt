-- A view as an area: the bytes of its elements are those of runs of one element each.
use Rattle.std.specs.Prelude.{◌≡◌, ℕ, ◌*◌, true, List, [], ◌∷◌, length}
use Rattle.sq_num.specs.Elements.{width}
use Rattle.sq_rect.specs.declared.view.View.{View}
use Rattle.sq_ir.specs.Events.{places, is_among}
use Rattle.sq_areas.specs.Areas.{HasByte}
use Rattle.sq_areas.specs.declared.areas.Step.{Step}

-- for each dimension its extent, and its stride in bytes
abbrev pub steps_of : (width : ℕ) → (extents strides : List ℕ) → List Step
steps_of w [] ss = []
steps_of w (n ∷ ns) [] = []
steps_of w (n ∷ ns) (s ∷ ss) = record { count = n; step = w * s } ∷ steps_of w ns ss

abbrev pub ViewsAreAreas : Type 0
ViewsAreAreas =
    (v : View) → length v.strides ≡ length v.extents → (k : ℕ)
    → (is_among (places v) k ≡ true → HasByte (steps_of (width v.elem) v.extents v.strides) v.at (width v.elem) k)
    × (HasByte (steps_of (width v.elem) v.extents v.strides) v.at (width v.elem) k → is_among (places v) k ≡ true)
