-- Tests of the arrays of a plan file.
use Rattle.std.specs.Prelude.{ℕ, ◌*◌, Bool, false, not, ◌&&◌, ◌==◌, nat_eq, nat_le, if◌then◌else◌, List, [], ◌∷◌, ◌++◌, Option, Some, None}
use Rattle.std.specs.List.{slice_get, list_any}
use Rattle.sq_num.specs.Elements.{width}
use Rattle.sq_text.specs.declared.code.Code.{Code}
use Rattle.sq_text.specs.declared.code.Code.TheVariants as code
use Rattle.sq_text.specs.Found.{Breach, at_name}
use Rattle.sq_text.specs.Names.{Bytes, same_name}
use Rattle.sq_plantext.specs.declared.text.BufferLine.{BufferLine}
use Rattle.sq_plantext.specs.declared.text.ArrayLine.{ArrayLine}
use Rattle.sq_planheads.specs.Extents.{elements_of}

-- so many elements of the array fit into these bytes
abbrev pub has_room : ArrayLine → Option ℕ → (bytes : ℕ) → Bool
has_room a None bytes = false
has_room a (Some n) bytes = nat_le (width a.elem * n) bytes

-- the array is at the root, in its buffer
abbrev pub fits_in : ArrayLine → Option BufferLine → Bool
fits_in a None = false
fits_in a (Some b) = (b.level == 0) && has_room a (elements_of a.extents) b.size

abbrev pub fits : List BufferLine → ArrayLine → Bool
fits buffers a = fits_in a (slice_get buffers a.buffer)

abbrev pub is_new_name : List Bytes → Bytes → Bool
is_new_name names n = not (list_any (same_name n) names)

abbrev pub with_name : List Bytes → Bytes → List Bytes
with_name names n = if list_any (same_name n) names then names else names ++ n ∷ []

abbrev pub is_new_buffer : List ℕ → ℕ → Bool
is_new_buffer buffers b = not (list_any (nat_eq b) buffers)

abbrev pub with_buffer : List ℕ → ℕ → List ℕ
with_buffer buffers b = if list_any (nat_eq b) buffers then buffers else buffers ++ b ∷ []

-- an array, and whether its name and its buffer are its own
pub record Site : Type 0 where
  pub first : Bool
  pub array : ArrayLine

-- the arrays behind others that have these names and buffers
abbrev pub sites : List Bytes → List ℕ → List ArrayLine → List Site
sites names taken [] = []
sites names taken (a ∷ later) =
    record { first = is_new_name names a.name.name && is_new_buffer taken a.buffer; array = a }
    ∷ sites (with_name names a.name.name) (with_buffer taken a.buffer) later

abbrev pub array_code : (first : Bool) → List BufferLine → ArrayLine → Option Code
array_code first buffers a = if first && fits buffers a then None else Some code.BadArray

abbrev pub array_breach : List BufferLine → Site → Option Breach
array_breach buffers s = at_name (array_code s.first buffers s.array) s.array.name.place s.array.name.name
