-- The arrays of an entry: what the data gives for them, where they stand in the root's memory, and their texts.
use Rattle.std.specs.Prelude.{ℕ, ◌*◌, ◌^◌, ◌≤◌, if◌then◌else◌, List, [], ◌∷◌, ◌++◌, map}
use Rattle.std.specs.List.{All}
use Rattle.sq_num.specs.Elements.{width, values_in}
use Rattle.sq_rect.specs.Extents.{product}
use Rattle.sq_ast.specs.Modes.{is_read, is_written}
use Rattle.sq_arrays.specs.Arrays.{Wanted}
use Rattle.sq_arrays.specs.Written.{array_text}
use Rattle.sq_ir.specs.Events.{Bytes, row}
use Rattle.sq_ir.specs.Plans.{setting_of}
use Rattle.sq_ir.specs.declared.plan.Plan.{Plan}
use Rattle.sq_root.specs.declared.place.Place.{Place}
use Rattle.sq_root.specs.Places.{part}
use Rattle.sq_planfile.specs.declared.entry.EntryArray.{EntryArray}

-- no array has more elements than an array may have
abbrev pub AreSmall : List EntryArray → Type 0
AreSmall arrays = All (λ a. product a.extents ≤ 2 ^ 26) arrays

-- ---- what is read

abbrev pub want_of : EntryArray → Wanted
want_of a = record { name = a.name; elem = a.elem; extents = a.extents }

abbrev pub those_read : List EntryArray → List EntryArray
those_read [] = []
those_read (a ∷ arrays) = if is_read a.mode then a ∷ those_read arrays else those_read arrays

-- the arrays that the data gives, in order
abbrev pub wants_of : List EntryArray → List Wanted
wants_of arrays = map want_of (those_read arrays)

-- ---- where they stand

-- at the offset of its buffer
abbrev pub place_of : Plan → EntryArray → Place
place_of p a = record { at = (setting_of p).offset a.buffer; size = product a.extents * width a.elem }

abbrev pub places_of : Plan → List EntryArray → List Place
places_of p arrays = map (place_of p) arrays

abbrev pub read_places : Plan → List EntryArray → List Place
read_places p arrays = places_of p (those_read arrays)

-- ---- what is written

-- the text of an array that is stored as these bytes
abbrev pub array_bytes_text : EntryArray → List ℕ → List ℕ
array_bytes_text a bytes = array_text (want_of a) (values_in a.elem (product a.extents) bytes)

-- and that of an `out` or `inout` one; of the others nothing is written
abbrev pub stored_text : EntryArray → List ℕ → List ℕ
stored_text a bytes = if is_written a.mode then array_bytes_text a bytes else []

-- the texts of the `out` and `inout` arrays, in order, as they stand in the root's memory
abbrev pub root_text : Plan → List EntryArray → (root : List ℕ) → List ℕ
root_text p [] root = []
root_text p (a ∷ arrays) root = stored_text a (part (place_of p a) root) ++ root_text p arrays root

-- and as they stand in these bytes
abbrev pub bytes_text : Plan → List EntryArray → Bytes → List ℕ
bytes_text p [] m = []
bytes_text p (a ∷ arrays) m = stored_text a (row m 0 (place_of p a).at (place_of p a).size) ++ bytes_text p arrays m
