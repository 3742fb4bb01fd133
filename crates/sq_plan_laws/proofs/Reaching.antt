-- What a call touches: bytes of elements of the caller's arrays, where these stand.
use Rattle.std.proofs.Common.{◌≡◌, ◌≢◌, ℕ, ◌+◌, ◌*◌, ◌/◌, ◌%◌, ◌<◌, Bool, true, false, List, sym, ap, ◌∙◌, subst}
use Rattle.std.specs.Prelude.{Some, None, slice_get}
use Rattle.sq_num.specs.Elements.{width}
use Rattle.sq_rect.specs.Extents.{product}
use Rattle.sq_rect.specs.Placing.{IsIn}
use Rattle.sq_leaf.specs.declared.shape.Shape.{Shape}
use Rattle.sq_blocks.specs.Arguments.{lengths}
use Rattle.sq_ast.specs.Modes.{is_written}
use Rattle.sq_placed.specs.FormLaws.Laws.{SharesElement}
use Rattle.sq_work.specs.Meaning.{covers, in_array}
use Rattle.sq_placed.specs.Placed.{PlacedArg, PlacedCall}
use Rattle.sq_cells.specs.Machine.{Node, Form}
use Rattle.sq_cells.specs.Cells.{Spot, spot}
use Rattle.sq_cells.specs.Work.{Mode, Input, Output, Both, Local, Reduced, Place, Buffer, InPlace, Held, Array, reads}
use Rattle.sq_cells.specs.Work.{is_reduced, is_private, writable}
use Rattle.sq_cells.specs.Work as bytes
use Rattle.sq_cells.specs.Lowered.{Layout, own, pick, held, source, CallNeeds, CallSets}
use Rattle.sq_plan_laws.specs.Coordinates.{number, coordinate, Fits}
use Rattle.sq_plan_laws.specs.Codes.{bytes_in}
use Rattle.sq_plan_laws.specs.Calling.{place_of, block_of, shapes_of, array_of, arrays_of, ArgsFit}
use Rattle.sq_plan_laws.specs.OnBytes.{arity_of}
use Rattle.sq_plan_laws.specs.Keeping.{CallKeeps}
use Rattle.sq_plan_laws.proofs.Coordinates.{in_of, element_under, byte_below}
use Rattle.sq_plan_laws.proofs.Blocks.{covered, byte_of, element_met}
use Rattle.sq_plan_laws.proofs.Returned.{arg_is, size_is, returned_mode}

-- ---- bytes of a form's arrays

pub record InShapes (outer : List Shape) (l : Spot) : Type 0 where
  pub sh : Shape
  pub there : slice_get outer l.area ≡ Some sh
  pub below : l.index < bytes_in sh

-- the element that a byte is of
pub record Element (outer : List Shape) (l : Spot) : Type 0 where
  pub sh : Shape
  pub there : slice_get outer l.area ≡ Some sh
  pub cs : List ℕ
  pub b : ℕ
  pub inside : IsIn sh.extents cs
  pub below : b < width sh.elem
  pub is : l ≡ spot l.area (number sh.extents cs * width sh.elem + b)

pub element_at : (outer : List Shape) (l : Spot) → InShapes outer l → Element outer l
element_at outer l h =
    let z = element_under h.sh.extents (width h.sh.elem) l.index h.below in
    record {
      sh = h.sh;
      there = h.there;
      cs = coordinate h.sh.extents (l.index / width h.sh.elem);
      b
          = l.index % width h.sh.elem;
      inside = z.2;
      below = z.3;
      is = ap (spot l.area) (sym z.4);
    }

-- ---- an array of a call

-- a byte of an argument's block
pub record Touched (outer : List Shape) (c : PlacedCall) (i k : ℕ) (l : Spot) : Type 0 where
  pub p : PlacedArg
  pub there : slice_get c.args i ≡ Some p
  pub array_is : arrays_of outer c i ≡ array_of outer (Some p) (slice_get (shapes_of c) i)
  pub of : Shape
  pub of_is : slice_get outer p.argument.array ≡ Some of
  pub fits : Fits p.argument.rect of.extents
  pub small : k < product (lengths p.argument.rect) * width of.elem
  pub block_is : block_of (slice_get outer p.argument.array) p.argument k ≡ l

pub touched : (outer : List Shape) (c : PlacedCall) → ArgsFit outer c.args → (i k : ℕ) (l : Spot)
    → (arrays_of outer c i).mode ≢ Local → k < (arrays_of outer c i).size → (arrays_of outer c i).block k ≡ l
    → Touched outer c i k l
touched outer c fit i k l ne lk e =
    let arg = arg_is outer c i ne in
    let fits = fit.each i arg.p arg.there in
    record {
      p = arg.p;
      there = arg.there;
      array_is = arg.is;
      of = fits.of;
      of_is = fits.there;
      fits = fits.fits;
      small = size_is arg.p fits.of fits.elem fits.extents k (subst (λ (a : Array). k < a.size) arg.is lk);
      block_is = subst (λ (a : Array). a.block k ≡ l) arg.is e;
    }

area_of : (p q : Spot) → p ≡ q → p.area ≡ q.area
area_of p q e = ap (λ (v : Spot). v.area) e

index_of : (p q : Spot) → p ≡ q → p.index ≡ q.index
index_of p q e = ap (λ (v : Spot). v.index) e

pub touched_in : (outer : List Shape) (c : PlacedCall) (i k : ℕ) (l : Spot) → Touched outer c i k l → InShapes outer l
touched_in outer c i k l h =
    let z = byte_of h.p.argument h.of k h.small in
    let e : spot h.p.argument.array (number h.of.extents (in_array h.p.argument.rect z.cs) * width h.of.elem + z.b) ≡ l
    = sym z.is ∙ (ap (λ o. block_of o h.p.argument k) (sym h.of_is) ∙ h.block_is) in
    record {
      sh = h.of;
      there = ap (slice_get outer) (sym (area_of _ l e)) ∙ h.of_is;
      below = subst (λ x. x < bytes_in h.of) (index_of _ l e)
          (byte_below h.of.extents (in_array h.p.argument.rect z.cs) (width h.of.elem) z.b
          (in_of h.p.argument.rect h.of.extents z.cs h.fits z.inside) z.below);
    }

-- the argument has the element
pub touched_has : (outer : List Shape) (c : PlacedCall) (i k : ℕ) (l : Spot) → Touched outer c i k l
    → (x : Element outer l) → (h : Touched outer c i k l) → (h.p.argument.array ≡ l.area)
    × (covers h.p.argument.rect x.cs ≡ true)
touched_has outer c i k l g x h =
    let m = element_met outer h.p.argument h.of x.sh k l.area x.b x.cs h.of_is h.fits h.small x.there x.inside x.below
    (h.block_is ∙ x.is) in
    (m.0, m.1)

-- two blocks that share a byte share an element
pub shares_element : (outer : List Shape) (c d : PlacedCall) (i j k h : ℕ) (l : Spot) → (x : Touched outer c i k l)
    → (y : Touched outer d j h l) → SharesElement x.p.argument y.p.argument
shares_element outer c d i j k h l x y =
    let e = element_at outer l (touched_in outer c i k l x) in
    let a = touched_has outer c i k l x e x in
    let b = touched_has outer d j h l y e y in
    record {
      array = a.0 ∙ sym b.0;
      blocks
          = record {
            coordinate = e.cs;
            in_one = covered x.p.argument.rect e.cs a.1;
            in_other
                = covered y.p.argument.rect e.cs b.1;
          };
    }

-- ---- modes

pub reads_not_local : (m : Mode) → reads m ≡ true → m ≢ Local
reads_not_local Input e q = cc
reads_not_local Output e q = cc
reads_not_local Both e q = cc
reads_not_local Local e q = cc
reads_not_local (Reduced op) e q = cc

pub returned_not_local : (m : Mode) → bytes.returned m ≡ true → m ≢ Local
returned_not_local Input e q = cc
returned_not_local Output e q = cc
returned_not_local Both e q = cc
returned_not_local Local e q = cc
returned_not_local (Reduced op) e q = cc

-- ---- a call

-- an argument that is read or written, as it is touched
pub record CallTouches (outer : List Shape) (c : PlacedCall) (l : Spot) : Type 0 where
  pub i : ℕ
  pub k : ℕ
  pub it : Touched outer c i k l

module _ (outer : List Shape) (c : PlacedCall) (fit : ArgsFit outer c.args) (may : ℕ → Bool) (keeps : CallKeeps c may)
    (node : Node) (form : Form) (at : Layout) where
  abbrev from : Layout
  from = source node form (arrays_of outer c) at

  -- where nothing is held, the caller's element stands where it stood
  stands : (z l q : Spot) → Touched outer c z.area z.index l → from z ≡ q → at l ≡ q
  stands z l q h e =
      let place : (arrays_of outer c z.area).place ≡ place_of h.p.home = ap (λ (a : Array). a.place) h.array_is in
      let not_held : held (arrays_of outer c z.area).place ≡ false = ap held place
      ∙ keeps.not_held z.area h.p h.there in
      let same : (arrays_of outer c z.area).block z.index ≡ l = ap (λ (a : Array). a.block z.index) h.array_is
      ∙ h.block_is in
      sym (ap at same) ∙ sym (ap (λ b. pick b (own node form z) (at ((arrays_of outer c z.area).block z.index)))
      not_held) ∙ e

  pub needs_touch : (l q : Spot) → CallNeeds (arity_of c) (arrays_of outer c) from l q → CallTouches outer c l
      × (at l ≡ q)
  needs_touch l q h =
      let it = touched outer c fit h.0.area h.0.index l (reads_not_local (arrays_of outer c h.0.area).mode h.2) h.1.1
      h.3 in
      (record { i = h.0.area; k = h.0.index; it = it }, stands h.0 l q it h.4)

  pub sets_touch : (l q : Spot) → CallSets (arity_of c) (arrays_of outer c) from l q → (t : CallTouches outer c l)
      × (at l ≡ q) × (t.it.p.gathers ≡ None) × (is_written t.it.p.argument.mode ≡ true)
  sets_touch l q h =
      let it = touched outer c fit h.0.area h.0.index l (returned_not_local (arrays_of outer c h.0.area).mode h.2) h.1.1
      h.3 in
      let m = returned_mode it.p (subst (λ (a : Array). bytes.returned a.mode ≡ true) it.array_is h.2) in
      (record { i = h.0.area; k = h.0.index; it = it }, stands h.0 l q it h.4, m.0, m.1)
