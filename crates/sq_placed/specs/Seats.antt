-- Where arrays stand: in the bytes of a node.
use Rattle.std.specs.Prelude.{ℕ, ◌*◌, ◌/◌, ◌%◌, List, [], ◌∷◌, map, slice_get, Option, Some, None}
use Rattle.sq_num.specs.Elements.{width}
use Rattle.sq_text.specs.declared.place.Span.{Span}
use Rattle.sq_ir.specs.Rect.declared.view.View.{View}
use Rattle.sq_ir.specs.Rect.Extents.{last_of, row_major}
use Rattle.sq_ir.specs.Rect.Placing.{place_of}
use Rattle.sq_ir.specs.Leaf.declared.shape.Shape.{Shape}
use Rattle.sq_ir.specs.Events.{Spot}
use Rattle.sq_ir.specs.Written.{Setting}
use Rattle.sq_placed.specs.declared.home.Home.{Home}
use Rattle.sq_placed.specs.declared.home.Home.TheVariants.{InPlace, Own, Held, Twin}
use Rattle.sq_placed.specs.Placed.{PlacedArg, PlacedLocal}

-- an array of a form, in the bytes of this node
pub record Seat : Type 0 where
  pub node : ℕ
  pub view : View

-- an array that fills a buffer
abbrev pub buffer_seat : Setting → (node buffer : ℕ) → Shape → Seat
buffer_seat s node b shape =
    record {
      node = node;
      view = record { at = s.offset b; elem = shape.elem; extents = shape.extents; strides = row_major shape.extents };
    }

abbrev pub firsts : List Span → List ℕ
firsts spans = map (λ x. x.lo) spans

-- a block of an array: with the caller's strides
abbrev pub block_seat : PlacedArg → Seat → Seat
block_seat p c =
    record {
      node = c.node;
      view = record {
        at = place_of c.view (firsts p.argument.rect);
        elem = c.view.elem;
        extents = p.shape.extents;
        strides = c.view.strides;
      };
    }

-- where the callee has a parameter, outside being its block of the caller's array
abbrev pub own_seat : Setting → (node : ℕ) → Shape → Home → (outside : Seat) → Seat
own_seat s node shape InPlace outside = outside
own_seat s node shape (Own b) outside = buffer_seat s node b shape
own_seat s node shape (Held b loops) outside = buffer_seat s node b shape
own_seat s node shape (Twin b c) outside = buffer_seat s node b shape

-- a parameter at one call, its block of the caller's array, and where the callee has it
pub record SeatedArg : Type 0 where
  pub passed : PlacedArg
  pub outside : Seat
  pub own : Seat

abbrev pub seat_arg : Setting → (node : ℕ) → PlacedArg → Seat → SeatedArg
seat_arg s node p c =
    record { passed = p; outside = block_seat p c; own = own_seat s node p.shape p.home (block_seat p c) }

abbrev pub cons_some : {A B : Type 0} → (A → B) → Option A → List B → List B
cons_some f None more = more
cons_some f (Some x) more = f x ∷ more

-- node: where the callee runs; seats: those of the caller's arrays. An argument of an array that isn't there is left
-- out.
abbrev pub seated_args : Setting → (node : ℕ) → List Seat → List PlacedArg → List SeatedArg
seated_args s node seats [] = []
seated_args s node seats (p ∷ ps) =
    cons_some (seat_arg s node p) (slice_get seats p.argument.array) (seated_args s node seats ps)

abbrev pub own_of : SeatedArg → Seat
own_of l = l.own

abbrev pub local_seat : Setting → (node : ℕ) → PlacedLocal → Seat
local_seat s node k = buffer_seat s node k.buffer k.shape

-- ---- rows

-- the first coordinate of row r, in order of coordinates
abbrev pub row_first : List ℕ → ℕ → List ℕ
row_first (n ∷ []) r = 0 ∷ []
row_first (n ∷ m ∷ []) r = r ∷ 0 ∷ []
row_first (n ∷ m ∷ k ∷ []) r = (r / m) ∷ (r % m) ∷ 0 ∷ []
row_first ns r = []

abbrev pub row_spot : Seat → ℕ → Spot
row_spot q r = record { node = q.node; at = place_of q.view (row_first q.view.extents r) }

-- how many bytes a row has
abbrev pub row_bytes : View → ℕ
row_bytes v = width v.elem * last_of v.extents
