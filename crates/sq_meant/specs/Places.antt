-- Where a plan has the entry's arrays in its root.
use Rattle.std.specs.Prelude.{◌*◌, ℕ, List, [], ◌∷◌}
use Rattle.sq_num.specs.Elements.{width}
use Rattle.sq_rect.specs.Extents.{product}
use Rattle.sq_leaf.specs.declared.shape.Shape.{Shape}
use Rattle.sq_spec.specs.declared.resolved.Resolved.{Resolved}
use Rattle.sq_flat.specs.Held.{entry_shapes}
use Rattle.sq_ir.specs.Plans.{setting_of}
use Rattle.sq_ir.specs.declared.plan.Plan.{Plan}
use Rattle.sq_root.specs.declared.place.Place.{Place}

-- the shapes of the entry's parameters
abbrev pub shapes_of : Resolved → List Shape
shapes_of r = entry_shapes r.typed.now.tasks r.mapping.now r.found.entries

-- an array of this shape, at the offset of this buffer
abbrev pub place_of : Plan → (buffer : ℕ) → Shape → Place
place_of p b sh = record { at = (setting_of p).offset b; size = product sh.extents * width sh.elem }

-- arrays in these buffers, one for each
abbrev pub places_in : Plan → (buffers : List ℕ) → List Shape → List Place
places_in p [] shapes = []
places_in p (b ∷ bs) [] = []
places_in p (b ∷ bs) (sh ∷ shapes) = place_of p b sh ∷ places_in p bs shapes

-- the entry's arrays, of these shapes
abbrev pub places_of : Plan → List Shape → List Place
places_of p shapes = places_in p p.draft.entry shapes
