-- The arrays of a call on bytes: its parameters, whose blocks are lists of bytes of the caller's arrays, and its
-- locals.
use Rattle.std.specs.Prelude.{◌≡◌, ℕ, ◌++◌, List, map, get_or, Option, Some, None, slice_get}
use Rattle.sq_num.specs.declared.Elem.{Elem}
use Rattle.sq_num.specs.declared.RedOp.{RedOp}
use Rattle.sq_num.specs.Elements.{width}
use Rattle.sq_ast.specs.declared.program.Mode as source
use Rattle.sq_ast.specs.declared.program.Mode.TheVariants as mode
use Rattle.sq_leaf.specs.declared.shape.Shape.{Shape}
use Rattle.sq_blocks.specs.declared.argument.Argument.{Argument}
use Rattle.sq_blocks.specs.Arguments.{lengths}
use Rattle.sq_placed.specs.declared.home.Home.{Home}
use Rattle.sq_placed.specs.declared.home.Home.TheVariants as home
use Rattle.sq_placed.specs.Placed.{PlacedArg, PlacedCall}
use Rattle.sq_cells.specs.Machine.{Form}
use Rattle.sq_cells.specs.Cells.{Spot, spot}
use Rattle.sq_cells.specs.Work.{Mode, Input, Output, Both, Local, Reduced, Place, Buffer, InPlace, Held, Array}
use Rattle.sq_plan_laws.specs.Coordinates.{Fits, block_cell}
use Rattle.sq_plan_laws.specs.Codes.{bytes_in}

abbrev pub plain_mode : source.Mode → Mode
plain_mode mode.Input = Input
plain_mode mode.Output = Output
plain_mode mode.Both = Both

abbrev pub mode_by : Option RedOp → Elem → source.Mode → Mode
mode_by None e m = plain_mode m
mode_by (Some op) e m = Reduced (record { red = op; elem = e })

abbrev pub mode_of : PlacedArg → Mode
mode_of p = mode_by p.gathers p.shape.elem p.argument.mode

abbrev pub place_of : Home → Place
place_of home.InPlace = InPlace
place_of (home.Own b) = Buffer
place_of (home.Held b loops) = Held
place_of (home.Twin b c) = Buffer

-- byte k of an argument, in an array of this shape
abbrev pub block_of : Option Shape → Argument → ℕ → Spot
block_of None a k = spot a.array k
block_of (Some of) a k = spot a.array (block_cell (width of.elem) a.rect of.extents k)

abbrev pub shapes_of : PlacedCall → List Shape
shapes_of c = map (λ p. p.shape) c.args ++ map (λ k. k.shape) c.locals

-- an array of a callee: a parameter, or else a local of this shape
abbrev pub local_of : Option Shape → Array
local_of None = record { mode = Local; place = Buffer; size = 0; block = spot 0 }
local_of (Some sh) = record { mode = Local; place = Buffer; size = bytes_in sh; block = spot 0 }

abbrev pub array_of : (outer : List Shape) → Option PlacedArg → Option Shape → Array
array_of outer None sh = local_of sh
array_of outer (Some p) sh = record {
  mode = mode_of p;
  place = place_of p.home;
  size = bytes_in p.shape;
  block
      = block_of (slice_get outer p.argument.array) p.argument;
}

-- outer: the shapes of the caller's arrays
abbrev pub arrays_of : (outer : List Shape) → PlacedCall → ℕ → Array
arrays_of outer c i = array_of outer (slice_get c.args i) (slice_get (shapes_of c) i)

-- ---- the offsets of a form's arrays

abbrev pub first_buffer : Home → ℕ
first_buffer home.InPlace = 0
first_buffer (home.Own b) = b
first_buffer (home.Held b loops) = b
first_buffer (home.Twin b c) = b

abbrev pub second_buffer : Home → ℕ
second_buffer home.InPlace = 0
second_buffer (home.Own b) = b
second_buffer (home.Held b loops) = b
second_buffer (home.Twin b c) = c

-- offset: of a buffer in its node
abbrev pub form_of : (offset : ℕ → ℕ) → (Home → ℕ) → PlacedCall → Form
form_of offset buffer c i = offset (get_or (map (λ p. buffer p.home) c.args ++ map (λ k. k.buffer) c.locals) i 0)

-- ---- fitting

-- an argument is a block of an array, of its parameter's type and extents
pub record PassedFits (outer : List Shape) (p : PlacedArg) : Type 0 where
  pub of : Shape
  pub there : slice_get outer p.argument.array ≡ Some of
  pub fits : Fits p.argument.rect of.extents
  pub elem : p.shape.elem ≡ of.elem
  pub extents : p.shape.extents ≡ lengths p.argument.rect

pub record ArgsFit (outer : List Shape) (args : List PlacedArg) : Type 0 where
  pub each : (k : ℕ) (p : PlacedArg) → slice_get args k ≡ Some p → PassedFits outer p
