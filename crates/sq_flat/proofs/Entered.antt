-- A callee's memory at its start shows the arrays that are meant.
use Rattle.std.proofs.Common.{arith, ◌≡◌, ◌∙◌, sym, ap, subst, refl, ℕ, zero, suc, ◌+◌, ◌-◌, ◌*◌, ◌≤◌, pos, Bool, true, false, nat_lt, ◌&&◌, if◌then◌else◌, List, [], ◌∷◌, ◌++◌, length, take, drop, slice_get, Option, Some, None}
use Rattle.std.proofs.lemmas.List.{append_assoc, length-append, length-replicate, take-replicate, drop-replicate}
use Rattle.std.proofs.Math.Nat.{mul-le-mul_left}
use Rattle.sq_num.proofs.Machine.{cut_int, cut_long}
use Rattle.sq_rect.proofs.Placing.{inside}
use Rattle.std.proofs.lemmas.Bool.Decides.{nat_tests}
use Rattle.std.proofs.Math.Seq.{take-append_seam, drop-append_seam}
use Rattle.sq_num.specs.declared.Elem.{Elem}
use Rattle.sq_num.specs.declared.Elem.TheVariants.{Byte, Int, Long}
use Rattle.sq_num.specs.Elements.{width, value, cut}
use Rattle.sq_text.specs.declared.place.Span.{Span}
use Rattle.sq_rect.specs.declared.view.View.{View}
use Rattle.sq_rect.specs.Extents.{product, row_major}
use Rattle.sq_rect.specs.Placing.{IsIn, offset}
use Rattle.sq_leaf.specs.declared.shape.Shape.{Shape}
use Rattle.sq_leaf.specs.Source.{Arrays}
use Rattle.sq_leaf.specs.Views.{Shows}
use Rattle.sq_blocks.specs.declared.argument.Argument.{Argument}
use Rattle.sq_blocks.specs.Arguments.{lengths}
use Rattle.sq_work.specs.Meaning.{is_inside, in_array, block_value, param_value, at_entry}
use Rattle.sq_ast.specs.Modes.{is_read}
use Rattle.sq_flat.specs.Blocks.{Fits, element, block_bytes}
use Rattle.sq_flat.specs.Memory.{size_of, total, lined, size, bytes_of, IsPlaced, ArePlaced, zeros, block_in, param_bytes, start_bytes, ArgsFit}
use Rattle.sq_flat.proofs.Elements.{element_block, length_block}
use Rattle.sq_flat.proofs.Standing.{element_is, length_bytes, loaded}
use Rattle.sq_flat.proofs.Fitting.{same_some}

-- ---- zeros

zero_value : (e : Elem) → value e (zeros (width e)) ≡ pos 0
unfolding value cut
zero_value Byte = refl
zero_value Int = cut_int 0 (omega arith)
zero_value Long = cut_long 0 (omega arith)

-- ---- one array

zero_element : (e : Elem) (ns cs : List ℕ) → IsIn ns cs → value e (element (width e) ns cs (zeros (width e * product ns))) ≡ pos 0
zero_element e ns cs at =
    let w : ℕ = width e in
    let o : ℕ = offset (row_major ns) cs in
    let below : w * (o + 1) ≤ w * product ns = omega (arith, mul-le-mul_left w (inside ns cs at)) in
    ap (value e)
    (element_is w ns cs (zeros (w * product ns)) (length-replicate (w * product ns) 0) at
    ∙ (ap (take w) (drop-replicate (w * o) (w * product ns) 0)
    ∙ take-replicate w (w * product ns - w * o) 0 (omega (arith, below))))
    ∙ zero_value e

is_in : (ns cs : List ℕ) → IsIn ns cs → is_inside ns cs ≡ true
is_in [] [] at = refl
is_in [] (c ∷ cs) at = absurd at
is_in (n ∷ ns) [] at = absurd at
is_in (n ∷ ns) (c ∷ cs) at =
    let below : nat_lt c n ≡ true = grind (arith, nat_tests, at.0) in
    ap (λ (b : Bool). b && is_inside ns cs) below ∙ is_in ns cs at.1

-- the array's coordinates of a block's lie inside
in_of : (spans : List Span) (ns cs : List ℕ) → Fits spans ns → IsIn (lengths spans) cs → IsIn ns (in_array spans cs)
in_of [] [] [] fits at = tt
in_of [] [] (c ∷ cs) fits at = absurd at
in_of [] (n ∷ ns) cs fits at = absurd fits
in_of (s ∷ spans) [] cs fits at = absurd fits
in_of (s ∷ spans) (n ∷ ns) [] fits at = absurd at
in_of (s ∷ spans) (n ∷ ns) (c ∷ cs) fits at = (omega (arith, at.0, fits.1, fits.0), in_of spans ns cs fits.2 at.1)

-- the value of an argument's block
block_shown : (outer : List View) (bytes : List ℕ) (s : Arrays) (a : Argument) (of : View) (e : Elem) (cs : List ℕ) → ArePlaced outer bytes → Shows outer bytes s
    → slice_get outer a.array ≡ Some of → Fits a.rect of.extents → e ≡ of.elem → IsIn (lengths a.rect) cs
    → value e (element (width e) (lengths a.rect) cs (block_in bytes a (slice_get outer a.array))) ≡ block_value a s cs
block_shown outer bytes s a of e cs placed shows there fits same at =
    let here : IsPlaced of bytes = placed.each a.array of there in
    let inner : IsIn of.extents (in_array a.rect cs) = in_of a.rect of.extents cs fits at in
    let w : ℕ = width of.elem in
    ap (λ (o : Option View). value e (element (width e) (lengths a.rect) cs (block_in bytes a o))) there
    ∙ (ap (λ (d : Elem). value d (element (width d) (lengths a.rect) cs (block_bytes w a.rect of.extents (bytes_of of bytes)))) same
    ∙ (ap (value of.elem) (element_block w a.rect of.extents (bytes_of of bytes) cs fits (length_bytes of bytes here) at)
    ∙ (sym (loaded of bytes (in_array a.rect cs) here inner)
    ∙ (shows.shown a.array of (in_array a.rect cs) there inner
    ∙ ap (λ (b : Bool). if b then s a.array (in_array a.rect cs) else pos 0) (sym (is_in (lengths a.rect) cs at))))))

read_shown : (read : Bool) (outer : List View) (bytes : List ℕ) (s : Arrays) (a : Argument) (of to : View) (cs : List ℕ) → ArePlaced outer bytes → Shows outer bytes s
    → slice_get outer a.array ≡ Some of → Fits a.rect of.extents → to.elem ≡ of.elem → to.extents ≡ lengths a.rect → IsIn to.extents cs
    → value to.elem (element (width to.elem) to.extents cs (if read then block_in bytes a (slice_get outer a.array) else zeros (size to))) ≡ (if read then block_value a s cs else pos 0)
read_shown true outer bytes s a of to cs placed shows there fits same extents at =
    ap (λ (ns : List ℕ). value to.elem (element (width to.elem) ns cs (block_in bytes a (slice_get outer a.array)))) extents
    ∙ block_shown outer bytes s a of to.elem cs placed shows there fits same (subst (λ (ns : List ℕ). IsIn ns cs) extents at)
read_shown false outer bytes s a of to cs placed shows there fits same extents at = zero_element to.elem to.extents cs at

-- an argument, or none
param_shown : (outer inner : List View) (bytes : List ℕ) (s : Arrays) (args : List Argument) (k : ℕ) (o : Option Argument) (v : View) (cs : List ℕ) → ArePlaced outer bytes → Shows outer bytes s
    → ArgsFit outer inner args → slice_get args k ≡ o → slice_get inner k ≡ Some v → IsIn v.extents cs
    → value v.elem (element (width v.elem) v.extents cs (param_bytes outer bytes o v)) ≡ param_value o s cs
param_shown outer inner bytes s args k None v cs placed shows fit is to at = zero_element v.elem v.extents cs at
param_shown outer inner bytes s args k (Some a) v cs placed shows fit is to at =
    let its = fit.each k a is in
    let same : its.to ≡ v = same_some its.to v (sym its.to_is ∙ to) in
    read_shown (is_read a.mode) outer bytes s a its.of v cs placed shows its.of_is its.fits
    (subst (λ (u : View). u.elem ≡ its.of.elem) same its.elem) (subst (λ (u : View). u.extents ≡ lengths a.rect) same its.extents) at

read_length : (read : Bool) (outer : List View) (bytes : List ℕ) (a : Argument) (of to : View) → ArePlaced outer bytes
    → slice_get outer a.array ≡ Some of → Fits a.rect of.extents → to.elem ≡ of.elem → to.extents ≡ lengths a.rect
    → length (if read then block_in bytes a (slice_get outer a.array) else zeros (size to)) ≡ size to
read_length true outer bytes a of to placed there fits same extents =
    ap (λ (o : Option View). length (block_in bytes a o)) there
    ∙ (length_block (width of.elem) a.rect of.extents (bytes_of of bytes) fits (length_bytes of bytes (placed.each a.array of there))
    ∙ (ap (λ (e : Elem). width e * product (lengths a.rect)) (sym same) ∙ ap (λ (ns : List ℕ). width to.elem * product ns) (sym extents)))
read_length false outer bytes a of to placed there fits same extents = length-replicate (size to) 0

param_length : (outer inner : List View) (bytes : List ℕ) (args : List Argument) (k : ℕ) (o : Option Argument) (v : View) → ArePlaced outer bytes
    → ArgsFit outer inner args → slice_get args k ≡ o → slice_get inner k ≡ Some v → length (param_bytes outer bytes o v) ≡ size v
param_length outer inner bytes args k None v placed fit is to = length-replicate (size v) 0
param_length outer inner bytes args k (Some a) v placed fit is to =
    let its = fit.each k a is in
    let same : its.to ≡ v = same_some its.to v (sym its.to_is ∙ to) in
    read_length (is_read a.mode) outer bytes a its.of v placed its.of_is its.fits
    (subst (λ (u : View). u.elem ≡ its.of.elem) same its.elem) (subst (λ (u : View). u.extents ≡ lengths a.rect) same its.extents)

-- ---- all of them

pub record HaveSizes (outer : List View) (bytes : List ℕ) (args : List Argument) (k : ℕ) (vs : List View) : Type 0 where
  pub each : (n : ℕ) (v : View) → slice_get vs n ≡ Some v → length (param_bytes outer bytes (slice_get args (k + n)) v) ≡ size v

later_sizes : (outer : List View) (bytes : List ℕ) (args : List Argument) (k : ℕ) (v : View) (vs : List View) → HaveSizes outer bytes args k (v ∷ vs) → HaveSizes outer bytes args (k + 1) vs
later_sizes outer bytes args k v vs have = record {
  each = λ n u there. subst (λ (i : ℕ). length (param_bytes outer bytes (slice_get args i) u) ≡ size u) (omega arith) (have.each (suc n) u there);
}

first_size : (outer : List View) (bytes : List ℕ) (args : List Argument) (k : ℕ) (v : View) (vs : List View) → HaveSizes outer bytes args k (v ∷ vs)
    → length (param_bytes outer bytes (slice_get args k) v) ≡ size v
first_size outer bytes args k v vs have = subst (λ (i : ℕ). length (param_bytes outer bytes (slice_get args i) v) ≡ size v) (omega arith) (have.each 0 v refl)

first_view : ℕ → Shape → View
first_view at s = record { at = at; elem = s.elem; extents = s.extents; strides = row_major s.extents }

-- the array of each number
start_at : (outer : List View) (bytes : List ℕ) (args : List Argument) (k : ℕ) (shapes : List Shape) (at n : ℕ) (pre : List ℕ) (v : View) → length pre ≡ at
    → HaveSizes outer bytes args k (lined at shapes) → slice_get (lined at shapes) n ≡ Some v
    → bytes_of v (pre ++ start_bytes outer bytes args k (lined at shapes)) ≡ param_bytes outer bytes (slice_get args (k + n)) v
start_at outer bytes args k [] at n pre v long have there = cc
start_at outer bytes args k (s ∷ shapes) at zero pre v long have there =
    let u : View = record { at = at; elem = s.elem; extents = s.extents; strides = row_major s.extents } in
    let part : List ℕ = param_bytes outer bytes (slice_get args k) u in
    let rest : List ℕ = start_bytes outer bytes args (k + 1) (lined (at + size_of s) shapes) in
    let same : u ≡ v = same_some u v there in
    let fills : length part ≡ size u = first_size outer bytes args k u (lined (at + size_of s) shapes) have in
    let of_u : bytes_of u (pre ++ (part ++ rest)) ≡ part =
    ap (take (size u)) (ap (λ (z : ℕ). drop z (pre ++ (part ++ rest))) (sym long) ∙ drop-append_seam pre (part ++ rest))
    ∙ (ap (λ (z : ℕ). take z (part ++ rest)) (sym fills) ∙ take-append_seam part rest) in
    let here : k + 0 ≡ k = omega arith in
    subst (λ (w : View). bytes_of w (pre ++ (part ++ rest)) ≡ param_bytes outer bytes (slice_get args (k + 0)) w) same
    (of_u ∙ ap (λ (i : ℕ). param_bytes outer bytes (slice_get args i) u) (sym here))
start_at outer bytes args k (s ∷ shapes) at (suc n) pre v long have there =
    let u : View = record { at = at; elem = s.elem; extents = s.extents; strides = row_major s.extents } in
    let part : List ℕ = param_bytes outer bytes (slice_get args k) u in
    let rest : List ℕ = start_bytes outer bytes args (k + 1) (lined (at + size_of s) shapes) in
    let fills : length part ≡ size u = first_size outer bytes args k u (lined (at + size_of s) shapes) have in
    let next : length (pre ++ part) ≡ at + size_of s = length-append pre part ∙ omega (arith, long, fills) in
    ap (bytes_of v) (sym (append_assoc pre part rest))
    ∙ (start_at outer bytes args (k + 1) shapes (at + size_of s) n (pre ++ part) v next (later_sizes outer bytes args k u (lined (at + size_of s) shapes) have) there
    ∙ ap (λ (i : ℕ). param_bytes outer bytes (slice_get args i) v) (omega arith))

pub start_length : (outer : List View) (bytes : List ℕ) (args : List Argument) (k : ℕ) (shapes : List Shape) (at : ℕ) → HaveSizes outer bytes args k (lined at shapes)
    → length (start_bytes outer bytes args k (lined at shapes)) ≡ total shapes
start_length outer bytes args k [] at have = refl
start_length outer bytes args k (s ∷ shapes) at have =
    let u : View = record { at = at; elem = s.elem; extents = s.extents; strides = row_major s.extents } in
    length-append (param_bytes outer bytes (slice_get args k) u) (start_bytes outer bytes args (k + 1) (lined (at + size_of s) shapes))
    ∙ omega (
      arith,
      first_size outer bytes args k u (lined (at + size_of s) shapes) have,
      start_length outer bytes args (k + 1) shapes (at + size_of s) (later_sizes outer bytes args k u (lined (at + size_of s) shapes) have),
    )

-- arrays in line stand whole in a memory of their size
pub line_ends : (shapes : List Shape) (at n : ℕ) (v : View) → slice_get (lined at shapes) n ≡ Some v → (v.strides ≡ row_major v.extents) × (at ≤ v.at) × (v.at + size v ≤ at + total shapes)
line_ends [] at n v there = cc
line_ends (s ∷ shapes) at zero v there =
    let u : View = record { at = at; elem = s.elem; extents = s.extents; strides = row_major s.extents } in
    subst (λ (w : View). (w.strides ≡ row_major w.extents) × (at ≤ w.at) × (w.at + size w ≤ at + total (s ∷ shapes))) (same_some u v there) (refl, omega arith, omega arith)
line_ends (s ∷ shapes) at (suc n) v there =
    let its = line_ends shapes (at + size_of s) n v there in
    (its.0, omega (arith, its.1), omega (arith, its.2))

pub line_placed : (shapes : List Shape) (bytes : List ℕ) → length bytes ≡ total shapes → ArePlaced (lined 0 shapes) bytes
line_placed shapes bytes long = record {
  each = λ n v there.
      let its = line_ends shapes 0 n v there in
      record { strides = its.0; ends = omega (arith, its.2, long) };
}

pub have_sizes : (outer inner : List View) (bytes : List ℕ) (args : List Argument) → ArePlaced outer bytes → ArgsFit outer inner args → HaveSizes outer bytes args 0 inner
have_sizes outer inner bytes args placed fit = record {
  each = λ n v there.
      let here : 0 + n ≡ n = omega arith in
      subst (λ (i : ℕ). length (param_bytes outer bytes (slice_get args i) v) ≡ size v) (sym here)
      (param_length outer inner bytes args n (slice_get args n) v placed fit refl there);
}

-- the memory shows the callee's arrays at its start
pub entered_shown : (outer : List View) (shapes : List Shape) (bytes : List ℕ) (args : List Argument) (s : Arrays) → ArePlaced outer bytes → ArgsFit outer (lined 0 shapes) args → Shows outer bytes s
    → Shows (lined 0 shapes) (start_bytes outer bytes args 0 (lined 0 shapes)) (at_entry args s)
entered_shown outer shapes bytes args s placed fit shows =
    let have = have_sizes outer (lined 0 shapes) bytes args placed fit in
    let memory : List ℕ = start_bytes outer bytes args 0 (lined 0 shapes) in
    let whole : ArePlaced (lined 0 shapes) memory = line_placed shapes memory (start_length outer bytes args 0 shapes 0 have) in
    record {
      shown = λ n v cs there at.
          let here : 0 + n ≡ n = omega arith in
          loaded v memory cs (whole.each n v there) at
          ∙ (ap (λ (b : List ℕ). value v.elem (element (width v.elem) v.extents cs b))
          (start_at outer bytes args 0 shapes 0 n [] v refl have there ∙ ap (λ (i : ℕ). param_bytes outer bytes (slice_get args i) v) here)
          ∙ param_shown outer (lined 0 shapes) bytes s args n (slice_get args n) v cs placed shows fit refl there at);
    }
