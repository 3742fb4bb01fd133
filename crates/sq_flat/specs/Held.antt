-- Arrays as they are stored, and what it is that they hold.
use Rattle.std.specs.Prelude.{◌≡◌, ℕ, zero, suc, ◌+◌, ◌<◌, ◌≤◌, List, [], ◌∷◌, map, length, take, drop, get_or, slice_get, Option, Some, None, ℤ, pos}
use Rattle.sq_num.specs.Elements.{width, value}
use Rattle.sq_rect.specs.declared.view.View.{View}
use Rattle.sq_rect.specs.Placing.{IsIn}
use Rattle.sq_ast.specs.declared.program.Param.{Param}
use Rattle.sq_ast.specs.declared.program.Variant.{Variant}
use Rattle.sq_spec.specs.Mappings.declared.mapping.Mapping.{Mapping}
use Rattle.sq_leaf.specs.declared.shape.Shape.{Shape}
use Rattle.sq_leaf.specs.Source.{Arrays}
use Rattle.sq_leaf.specs.Spots.{put_at}
use Rattle.sq_leaf.specs.Views.{shape_of}
use Rattle.sq_blocks.specs.declared.argument.Argument.{Argument}
use Rattle.sq_spec.specs.Forms.declared.form.Found.{Found}
use Rattle.sq_spec.specs.Forms.Steps.{Forms, Key}
use Rattle.sq_spec.specs.Forms.Resolving.{entry_params}
use Rattle.sq_spec.specs.Works.{param_shapes, entry_arguments}
use Rattle.sq_flat.specs.Blocks.{element}
use Rattle.sq_flat.specs.Memory.{size_of, total, zeros}
use Rattle.sq_flat.specs.Ready.{IsLine}

-- arrays of these shapes, and the bytes of each: its elements in order of coordinates
pub record Stored : Type 0 where
  pub shapes : List Shape
  pub bytes : List (List ℕ)

-- each is as long as its shape says
abbrev pub AreWhole : Stored → Type 0
AreWhole a = map length a.bytes ≡ map size_of a.shapes

-- the k-th array holds those of s: its element at each coordinate has that value
pub record Holds (shapes : List Shape) (list : List (List ℕ)) (s : Arrays) : Type 0 where
  pub held : (k : ℕ) (shape : Shape) (cs : List ℕ) → slice_get shapes k ≡ Some shape → IsIn shape.extents cs
      → value shape.elem (element (width shape.elem) shape.extents cs (get_or list k [])) ≡ s k cs

-- the value of an element in these bytes
abbrev pub value_at : Option Shape → List ℕ → List ℕ → ℤ
value_at None bytes cs = pos 0
value_at (Some s) bytes cs = value s.elem (element (width s.elem) s.extents cs bytes)

abbrev pub values_of : List Shape → List (List ℕ) → Arrays
values_of shapes list k cs = value_at (slice_get shapes k) (get_or list k []) cs

-- Bytes of arrays always hold some.
abbrev pub BytesHoldValues : Type 0
BytesHoldValues = (shapes : List Shape) (list : List (List ℕ)) → Holds shapes list (values_of shapes list)

-- ---- one memory

-- arrays that stand one behind the other: of a `byte` array of 2 and one of 3 the bytes 1 2 3 4 5 are 1 2 and 3 4 5
abbrev pub split : List Shape → List ℕ → List (List ℕ)
split [] bytes = []
split (s ∷ shapes) bytes = take (size_of s) bytes ∷ split shapes (drop (size_of s) bytes)

abbrev pub stored : List View → List ℕ → Stored
stored vs bytes = record { shapes = map shape_of vs; bytes = split (map shape_of vs) bytes }

-- they fill the memory
pub record AreStored (vs : List View) (bytes : List ℕ) : Type 0 where
  pub line : IsLine vs
  pub long : length bytes ≡ total (map shape_of vs)

-- ---- changes

-- the same arrays, of which one has these bytes from that place on
abbrev pub put_part : (array at : ℕ) → List ℕ → List (List ℕ) → List (List ℕ)
put_part array at part [] = []
put_part zero at part (bytes ∷ rest) = put_at at part bytes ∷ rest
put_part (suc array) at part (bytes ∷ rest) = bytes ∷ put_part array at part rest

-- so many bytes of an array, from that place on
pub record HasPart (list : List (List ℕ)) (array at size : ℕ) : Type 0 where
  pub there : array < length list
  pub within : at + size ≤ length (get_or list array [])

abbrev pub zero_bytes : List Shape → List (List ℕ)
zero_bytes shapes = map (λ s. zeros (size_of s)) shapes

-- ---- the entry

abbrev pub extents_in : Option (Key × Found) → List (List ℕ)
extents_in None = []
extents_in (Some entry) = entry.1.extents

abbrev pub params_in : List Variant → Mapping → List Param
params_in variants mapping = entry_params variants (slice_get mapping.instances mapping.entry)

-- the shapes of its parameters
abbrev pub entry_shapes : List Variant → Mapping → Forms → List Shape
entry_shapes variants mapping found = param_shapes (params_in variants mapping) 0 (extents_in (slice_get found 0))

-- it is called with whole arrays
abbrev pub entry_args : List Variant → Mapping → Forms → List Argument
entry_args variants mapping found = entry_arguments (params_in variants mapping) 0 (extents_in (slice_get found 0))
