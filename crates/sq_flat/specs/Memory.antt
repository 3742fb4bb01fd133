-- The arrays of a form in one memory, one behind the other.
use Rattle.std.specs.Prelude.{◌≡◌, ℕ, ◌+◌, ◌*◌, ◌^◌, ◌<◌, ◌≤◌, List, [], ◌∷◌, ◌++◌, take, drop, replicate, length, Option, Some, None, slice_get, if◌then◌else◌}
use Rattle.sq_num.specs.declared.RedOp.{RedOp}
use Rattle.sq_num.specs.Elements.{width}
use Rattle.sq_num.specs.Reductions.{identity}
use Rattle.sq_kern.specs.Rows.{cells, reduced}
use Rattle.sq_rect.specs.declared.view.View.{View}
use Rattle.sq_rect.specs.Extents.{product, row_major}
use Rattle.sq_leaf.specs.declared.shape.Shape.{Shape}
use Rattle.sq_blocks.specs.declared.argument.Argument.{Argument}
use Rattle.sq_ast.specs.Modes.{is_written}
use Rattle.sq_blocks.specs.Arguments.{lengths}
use Rattle.sq_ast.specs.Modes.{is_read}
use Rattle.sq_flat.specs.Blocks.{Fits, block_bytes, with_bytes}

-- how many bytes an array has
abbrev pub size_of : Shape → ℕ
size_of s = width s.elem * product s.extents

abbrev pub total : List Shape → ℕ
total [] = 0
total (s ∷ shapes) = size_of s + total shapes

-- where they stand, from a byte on: of two arrays of 3 `int`s the second is at 12
abbrev pub lined : ℕ → List Shape → List View
lined at [] = []
lined at (s ∷ shapes) = record { at = at; elem = s.elem; extents = s.extents; strides = row_major s.extents } ∷ lined (at + size_of s) shapes

abbrev pub size : View → ℕ
size v = width v.elem * product v.extents

-- the bytes of the array that a view shows
abbrev pub bytes_of : View → List ℕ → List ℕ
bytes_of v bytes = take (size v) (drop v.at bytes)

-- a view shows a whole array of the memory
pub record IsPlaced (v : View) (bytes : List ℕ) : Type 0 where
  pub strides : v.strides ≡ row_major v.extents
  pub ends : v.at + size v ≤ length bytes

pub record ArePlaced (vs : List View) (bytes : List ℕ) : Type 0 where
  pub each : (n : ℕ) (v : View) → slice_get vs n ≡ Some v → IsPlaced v bytes

-- each has a size that is counted in 32 bits
pub record AreSmall (vs : List View) : Type 0 where
  pub each : (n : ℕ) (v : View) → slice_get vs n ≡ Some v → size v < 2 ^ 32

-- ---- a callee's arrays at its start

abbrev pub zeros : ℕ → List ℕ
zeros n = replicate n 0

abbrev pub block_in : List ℕ → Argument → Option View → List ℕ
block_in bytes a None = []
block_in bytes a (Some v) = block_bytes (width v.elem) a.rect v.extents (bytes_of v bytes)

-- the values of its argument, or zeros where that is not read
abbrev pub param_bytes : List View → List ℕ → Option Argument → View → List ℕ
param_bytes outer bytes None v = zeros (size v)
param_bytes outer bytes (Some a) v = if is_read a.mode then block_in bytes a (slice_get outer a.array) else zeros (size v)

-- the arrays from the k-th on
abbrev pub start_bytes : List View → List ℕ → List Argument → ℕ → List View → List ℕ
start_bytes outer bytes args k [] = []
start_bytes outer bytes args k (v ∷ vs) = param_bytes outer bytes (slice_get args k) v ++ start_bytes outer bytes args (k + 1) vs

-- the k-th argument is a block of an array, of the parameter's type and extents
pub record ArgFits (outer inner : List View) (k : ℕ) (a : Argument) : Type 0 where
  pub of : View
  pub of_is : slice_get outer a.array ≡ Some of
  pub fits : Fits a.rect of.extents
  pub to : View
  pub to_is : slice_get inner k ≡ Some to
  pub elem : to.elem ≡ of.elem
  pub extents : to.extents ≡ lengths a.rect

pub record ArgsFit (outer inner : List View) (args : List Argument) : Type 0 where
  pub each : (k : ℕ) (a : Argument) → slice_get args k ≡ Some a → ArgFits outer inner k a

-- ---- a caller's arrays at its callee's end

-- the memory with the array that a view shows replaced
abbrev pub put_array : View → List ℕ → List ℕ → List ℕ
put_array v array bytes = take v.at bytes ++ (array ++ drop (size v) (drop v.at bytes))

-- the block's values are those of the parameter
abbrev pub put_param : Argument → Option View → Option View → (memory bytes : List ℕ) → List ℕ
put_param a (Some of) (Some to) memory bytes = put_array of (with_bytes (width of.elem) a.rect of.extents (bytes_of to memory) (bytes_of of bytes)) bytes
put_param a _ _ memory bytes = bytes

abbrev pub put_written : List View → List View → ℕ → Argument → (memory bytes : List ℕ) → List ℕ
put_written outer inner k a memory bytes = if is_written a.mode then put_param a (slice_get outer a.array) (slice_get inner k) memory bytes else bytes

-- of the arguments from the k-th on
abbrev pub end_bytes : List View → List View → List ℕ → ℕ → List Argument → List ℕ → List ℕ
end_bytes outer inner memory k [] bytes = bytes
end_bytes outer inner memory k (a ∷ args) bytes = put_written outer inner k a memory (end_bytes outer inner memory (k + 1) args bytes)

pub record FitFrom (outer inner : List View) (k : ℕ) (args : List Argument) : Type 0 where
  pub each : (i : ℕ) (a : Argument) → slice_get args i ≡ Some a → ArgFits outer inner (k + i) a

-- ---- a reduction

-- the array that is reduced into holds the identity
abbrev pub cleared_bytes : RedOp → View → List ℕ → List ℕ
cleared_bytes op v bytes = put_array v (cells v.elem (replicate (product v.extents) (identity op v.elem))) bytes

-- its values are combined into those that were there before
abbrev pub combined_bytes : RedOp → View → (before bytes : List ℕ) → List ℕ
combined_bytes op v before bytes = put_array v (reduced op v.elem (product v.extents) (bytes_of v bytes) before) bytes
