-- What a memory shows is what its arrays hold.
use Rattle.std.proofs.Common.{arith, ◌≡◌, ◌∙◌, sym, ap, ap₂, subst, refl, ℕ, zero, suc, ◌+◌, ◌-◌, ◌<◌, ◌≤◌, true, List, [], ◌∷◌, ◌++◌, map, length, take, drop, replicate, get_or, slice_get, Option, Some, Result, Ok, Err}
use Rattle.std.proofs.lemmas.List.{append_assoc, drop-drop, drop-append-le, take-append-le, take-append-drop, length-append, length-take-le, length-drop, length-replicate, take-replicate, drop-replicate}
use Rattle.std.proofs.Math.Seq.{take-append_seam, take-append-add, drop-append_seam, drop-append-add}
use Rattle.sq_num.specs.Elements.{width, value}
use Rattle.sq_rect.specs.declared.view.View.{View}
use Rattle.sq_rect.specs.Extents.{row_major}
use Rattle.sq_rect.specs.Placing.{IsIn}
use Rattle.sq_leaf.specs.declared.shape.Shape.{Shape}
use Rattle.sq_leaf.specs.Source.{Arrays}
use Rattle.sq_leaf.specs.Spots.{put_at}
use Rattle.sq_leaf.specs.Views.{Shows, shape_of}
use Rattle.sq_work.specs.Meaning.{Outcome}
use Rattle.sq_flat.specs.declared.form.End.{End}
use Rattle.sq_flat.specs.declared.form.End.TheVariants.{Trapped, NoMemory}
use Rattle.sq_flat.specs.Blocks.{element}
use Rattle.sq_flat.specs.Memory.{size_of, total, lined, size, bytes_of, zeros, IsPlaced, ArePlaced}
use Rattle.sq_flat.specs.Works.{Follows}
use Rattle.sq_flat.specs.Checked.{are_lined}
use Rattle.sq_flat.specs.Held.{Stored, BytesHoldValues, value_at, Holds, HasPart, AreWhole, AreStored, split, stored, put_part, zero_bytes}
use Rattle.sq_flat.specs.Ends.{HoldsInside}
use Rattle.sq_flat.proofs.Standing.{length_bytes, loaded}
use Rattle.sq_flat.proofs.Fitting.{same_some}
use Rattle.sq_flat.proofs.Entered.{line_ends, line_placed}
use Rattle.sq_flat.proofs.Calling.{placed_in_line}
use Rattle.sq_flat.proofs.Checks.{line_of}

-- ---- views and shapes

abbrev view_at : ℕ → Shape → View
view_at at s = record { at = at; elem = s.elem; extents = s.extents; strides = row_major s.extents }

pub lined_shapes : (at : ℕ) (shapes : List Shape) → map shape_of (lined at shapes) ≡ shapes
lined_shapes at [] = refl
lined_shapes at (s ∷ shapes) = ap (λ (l : List Shape). s ∷ l) (lined_shapes (at + size_of s) shapes)

pub shape_there : (at : ℕ) (shapes : List Shape) (n : ℕ) (v : View) → slice_get (lined at shapes) n ≡ Some v → slice_get shapes n ≡ Some (shape_of v)
shape_there at [] n v there = cc
shape_there at (s ∷ shapes) zero v there =
    ap (λ (u : View). Some (shape_of u)) (same_some (record { at = at; elem = s.elem; extents = s.extents; strides = row_major s.extents }) v there)
shape_there at (s ∷ shapes) (suc n) v there = shape_there (at + size_of s) shapes n v there

-- the view of an array of this shape
pub record HasView (vs : List View) (n : ℕ) (s : Shape) : Type 0 where
  pub view : View
  pub there : slice_get vs n ≡ Some view
  pub shape : shape_of view ≡ s

pub view_there : (at : ℕ) (shapes : List Shape) (n : ℕ) (s : Shape) → slice_get shapes n ≡ Some s → HasView (lined at shapes) n s
view_there at [] n s there = cc
view_there at (t ∷ shapes) zero s there = record {
  view = record { at = at; elem = t.elem; extents = t.extents; strides = row_major t.extents };
  there = refl;
  shape = same_some t s there;
}
view_there at (t ∷ shapes) (suc n) s there =
    let its = view_there (at + size_of t) shapes n s there in
    record { view = its.view; there = its.there; shape = its.shape }

-- ---- the bytes of each array

pub split_at : (at : ℕ) (shapes : List Shape) (n : ℕ) (v : View) (bytes : List ℕ) → slice_get (lined at shapes) n ≡ Some v → bytes_of v bytes ≡ get_or (split shapes (drop at bytes)) n []
split_at at [] n v bytes there = cc
split_at at (s ∷ shapes) zero v bytes there =
    subst (λ (u : View). bytes_of u bytes ≡ take (size_of s) (drop at bytes)) (same_some (record { at = at; elem = s.elem; extents = s.extents; strides = row_major s.extents }) v there) refl
split_at at (s ∷ shapes) (suc n) v bytes there =
    split_at (at + size_of s) shapes n v bytes there
    ∙ ap (λ (b : List ℕ). get_or (split shapes b) n []) (sym (drop-drop (size_of s) at bytes))

split_cons : (s : Shape) (shapes : List Shape) (front rest : List ℕ) → length front ≡ size_of s → split (s ∷ shapes) (front ++ rest) ≡ front ∷ split shapes rest
split_cons s shapes front rest long =
    ap₂ (λ (a b : List ℕ). a ∷ split shapes b)
    (ap (λ (z : ℕ). take z (front ++ rest)) (sym long) ∙ take-append_seam front rest)
    (ap (λ (z : ℕ). drop z (front ++ rest)) (sym long) ∙ drop-append_seam front rest)

-- the bytes of the first array, and those behind them
record IsCut (s : Shape) (shapes : List Shape) (bytes : List ℕ) : Type 0 where
  is : take (size_of s) bytes ++ drop (size_of s) bytes ≡ bytes
  front : length (take (size_of s) bytes) ≡ size_of s
  rest : length (drop (size_of s) bytes) ≡ total shapes

cut_of : (s : Shape) (shapes : List Shape) (bytes : List ℕ) → length bytes ≡ total (s ∷ shapes) → IsCut s shapes bytes
cut_of s shapes bytes long = record {
  is = take-append-drop (size_of s) bytes;
  front = length-take-le (size_of s) bytes (omega (arith, long));
  rest = length-drop (size_of s) bytes ∙ omega (arith, long);
}

pub split_whole : (shapes : List Shape) (bytes : List ℕ) → length bytes ≡ total shapes → map length (split shapes bytes) ≡ map size_of shapes
split_whole [] bytes long = refl
split_whole (s ∷ shapes) bytes long =
    let cut = cut_of s shapes bytes long in
    ap₂ (λ (n : ℕ) (ns : List ℕ). n ∷ ns) cut.front (split_whole shapes (drop (size_of s) bytes) cut.rest)

pub split_length : (shapes : List Shape) (bytes : List ℕ) → length (split shapes bytes) ≡ length shapes
split_length [] bytes = refl
split_length (s ∷ shapes) bytes = ap suc (split_length shapes (drop (size_of s) bytes))

pub split_zeros : (shapes : List Shape) → split shapes (zeros (total shapes)) ≡ zero_bytes shapes
split_zeros [] = refl
split_zeros (s ∷ shapes) =
    let left : size_of s + total shapes - size_of s ≡ total shapes = omega arith in
    ap₂ (λ (a b : List ℕ). a ∷ split shapes b)
    (take-replicate (size_of s) (size_of s + total shapes) 0 (omega arith))
    (drop-replicate (size_of s) (size_of s + total shapes) 0 ∙ ap (λ (n : ℕ). replicate n 0) left)
    ∙ ap (λ (l : List (List ℕ)). zeros (size_of s) ∷ l) (split_zeros shapes)

-- ---- showing and holding

pub line_holds : (shapes : List Shape) (bytes : List ℕ) (s : Arrays) → length bytes ≡ total shapes → Shows (lined 0 shapes) bytes s → Holds shapes (split shapes bytes) s
line_holds shapes bytes s long shows = record {
  held = λ k shape cs there at.
      let its = view_there 0 shapes k shape there in
      let v = its.view in
      let placed : IsPlaced v bytes = (line_placed shapes bytes long).each k v its.there in
      let inside : IsIn v.extents cs = subst (λ (t : Shape). IsIn t.extents cs) (sym its.shape) at in
      subst (λ (t : Shape). value t.elem (element (width t.elem) t.extents cs (get_or (split shapes bytes) k [])) ≡ s k cs) its.shape
      (ap (λ (b : List ℕ). value v.elem (element (width v.elem) v.extents cs b)) (sym (split_at 0 shapes k v bytes its.there))
      ∙ (sym (loaded v bytes cs placed inside) ∙ shows.shown k v cs its.there inside));
}

pub line_shows : (shapes : List Shape) (bytes : List ℕ) (s : Arrays) → length bytes ≡ total shapes → Holds shapes (split shapes bytes) s → Shows (lined 0 shapes) bytes s
line_shows shapes bytes s long holds = record {
  shown = λ n v cs there at.
      let placed : IsPlaced v bytes = (line_placed shapes bytes long).each n v there in
      loaded v bytes cs placed at
      ∙ (ap (λ (b : List ℕ). value v.elem (element (width v.elem) v.extents cs b)) (split_at 0 shapes n v bytes there)
      ∙ holds.held n (shape_of v) cs (shape_there 0 shapes n v there) at);
}

pub bytes_hold_values : BytesHoldValues
bytes_hold_values shapes list = record {
  held = λ k shape cs there at. sym (ap (λ (o : Option Shape). value_at o (get_or list k []) cs) there);
}

pub stored_shows : (vs : List View) (bytes : List ℕ) (s : Arrays) → AreStored vs bytes → Holds (stored vs bytes).shapes (stored vs bytes).bytes s → Shows vs bytes s
stored_shows vs bytes s are holds = subst (λ (us : List View). Shows us bytes s) (sym are.line.lined) (line_shows (map shape_of vs) bytes s are.long holds)

pub stored_holds : (vs : List View) (bytes : List ℕ) (s : Arrays) → AreStored vs bytes → Shows vs bytes s → Holds (stored vs bytes).shapes (stored vs bytes).bytes s
stored_holds vs bytes s are shows = line_holds (map shape_of vs) bytes s are.long (subst (λ (us : List View). Shows us bytes s) are.line.lined shows)

pub stored_placed : (vs : List View) (bytes : List ℕ) → AreStored vs bytes → ArePlaced vs bytes
stored_placed vs bytes are = placed_in_line vs bytes are.line are.long

pub stored_still : (vs : List View) (old new : List ℕ) → length new ≡ length old → AreStored vs old → AreStored vs new
stored_still vs old new same are = record { line = are.line; long = same ∙ are.long }

pub zeros_stored : (vs : List View) (items : List ℕ) → are_lined 0 vs ≡ true → items ≡ zeros (total (map shape_of vs)) → AreStored vs items
zeros_stored vs items lined is = record { line = line_of vs lined; long = ap length is ∙ length-replicate (total (map shape_of vs)) 0 }

pub zeros_are : (vs : List View) (items : List ℕ) → items ≡ zeros (total (map shape_of vs)) → stored vs items ≡ record { shapes = map shape_of vs; bytes = zero_bytes (map shape_of vs) }
zeros_are vs items is =
    ap (λ (l : List (List ℕ)). record { shapes = map shape_of vs; bytes = l }) (ap (split (map shape_of vs)) is ∙ split_zeros (map shape_of vs))

pub zeros_whole : (shapes : List Shape) → map length (zero_bytes shapes) ≡ map size_of shapes
zeros_whole [] = refl
zeros_whole (s ∷ shapes) = ap₂ (λ (n : ℕ) (ns : List ℕ). n ∷ ns) (length-replicate (size_of s) 0) (zeros_whole shapes)

-- a run over the memory ended so
pub held_inside : (vs : List View) (new : List ℕ) (result : Result (Unit {0}) End) (o : Outcome) → AreStored vs new → Follows vs new result o → HoldsInside (map shape_of vs) (stored vs new) result o
held_inside vs new (Ok x) (Ok s) are follows = (refl, split_whole (map shape_of vs) new are.long, stored_holds vs new s are follows)
held_inside vs new (Ok x) (Err y) are follows = absurd follows
held_inside vs new (Err NoMemory) o are follows = tt
held_inside vs new (Err (Trapped x)) (Ok s) are follows = absurd follows
held_inside vs new (Err (Trapped x)) (Err y) are follows = follows

pub run_held : (vs : List View) (old new after : List ℕ) (a : Stored) (result : Result (Unit {0}) End) (o : Outcome) (s : Arrays) → AreStored vs old → stored vs old ≡ a → length new ≡ length old
    → after ≡ new → (Shows vs old s → Follows vs new result o) → Holds a.shapes a.bytes s → HoldsInside a.shapes (stored vs after) result o
run_held vs old new after a result o s are is same put run holds =
    subst (λ (b : Stored). HoldsInside b.shapes (stored vs after) result o) is
    (subst (λ (b : List ℕ). HoldsInside (map shape_of vs) (stored vs b) result o) (sym put) (held_inside vs new result o (stored_still vs old new same are)
    (run (stored_shows vs old s are (subst (λ (b : Stored). Holds b.shapes b.bytes s) (sym is) holds)))))

-- ---- one of the arrays

length_map : {A B : Type 0} (f : A → B) (xs : List A) → length (map f xs) ≡ length xs
length_map f [] = refl
length_map f (x ∷ xs) = ap suc (length_map f xs)

pub as_many : (vs : List View) (bytes : List ℕ) → length (split (map shape_of vs) bytes) ≡ length vs
as_many vs bytes = split_length (map shape_of vs) bytes ∙ length_map shape_of vs

pub is_there : (vs : List View) (bytes : List ℕ) (a : Stored) (array : ℕ) → stored vs bytes ≡ a → array < length a.bytes → array < length vs
is_there vs bytes a array is below =
    let many : length a.bytes ≡ length vs = ap (λ (b : Stored). length b.bytes) (sym is) ∙ as_many vs bytes in
    omega (arith, below, many)

pub stored_array : (vs : List View) (bytes : List ℕ) (array : ℕ) (v : View) → AreStored vs bytes → slice_get vs array ≡ Some v → bytes_of v bytes ≡ get_or (split (map shape_of vs) bytes) array []
stored_array vs bytes array v are there =
    split_at 0 (map shape_of vs) array v bytes (subst (λ (us : List View). slice_get us array ≡ Some v) are.line.lined there)

-- each is as long as its shape says
size_at : (shapes : List Shape) (list : List (List ℕ)) (k : ℕ) (s : Shape) → map length list ≡ map size_of shapes → slice_get shapes k ≡ Some s → length (get_or list k []) ≡ size_of s
size_at [] list k s same there = cc
size_at (t ∷ shapes) [] k s same there = cc
size_at (t ∷ shapes) (b ∷ list) zero s same there =
    let first : length b ≡ size_of t = ap (λ (ns : List ℕ). get_or ns 0 0) same in
    first ∙ ap size_of (same_some t s there)
size_at (t ∷ shapes) (b ∷ list) (suc k) s same there = size_at shapes list k s (ap (drop 1) same) there

pub array_whole : (vs : List View) (bytes : List ℕ) (a : Stored) (array : ℕ) (s : Shape) → AreStored vs bytes → stored vs bytes ≡ a → slice_get a.shapes array ≡ Some s
    → length (get_or a.bytes array []) ≡ size_of s
array_whole vs bytes a array s are is there = size_at a.shapes a.bytes array s (subst AreWhole is (split_whole (map shape_of vs) bytes are.long)) there

-- ---- a part of an array replaced

put_front : (p : ℕ) (part front rest : List ℕ) → p + length part ≤ length front → put_at p part (front ++ rest) ≡ put_at p part front ++ rest
put_front p part front rest room =
    let behind : List ℕ = drop (p + length part) front in
    ap₂ (λ (a b : List ℕ). a ++ (part ++ b)) (take-append-le p front rest (omega (arith, room))) (drop-append-le (p + length part) front rest room)
    ∙ sym (append_assoc (take p front) (part ++ behind) rest ∙ ap (λ (l : List ℕ). take p front ++ l) (append_assoc part behind rest))

put_behind : (p : ℕ) (part front rest : List ℕ) → put_at (length front + p) part (front ++ rest) ≡ front ++ put_at p part rest
put_behind p part front rest =
    let there : length front + p + length part ≡ length front + (p + length part) = omega arith in
    ap₂ (λ (a b : List ℕ). a ++ (part ++ b)) (take-append-add front rest p)
    (ap (λ (z : ℕ). drop z (front ++ rest)) there ∙ drop-append-add front rest (p + length part))
    ∙ append_assoc front (take p rest) (part ++ drop (p + length part) rest)

pub put_at_length : (p : ℕ) (part bytes : List ℕ) → p + length part ≤ length bytes → length (put_at p part bytes) ≡ length bytes
put_at_length p part bytes room =
    length-append (take p bytes) (part ++ drop (p + length part) bytes)
    ∙ (ap (λ (n : ℕ). length (take p bytes) + n) (length-append part (drop (p + length part) bytes))
    ∙ omega (arith, room, length-take-le p bytes (omega (arith, room)), length-drop (p + length part) bytes))

-- in the array whose view stands o bytes behind the first
split_put_from : (at : ℕ) (shapes : List Shape) (n o p : ℕ) (v : View) (part bytes : List ℕ) → slice_get (lined at shapes) n ≡ Some v → v.at ≡ at + o → p + length part ≤ size v
    → length bytes ≡ total shapes → split shapes (put_at (o + p) part bytes) ≡ put_part n p part (split shapes bytes)
split_put_from at [] n o p v part bytes there from room long = cc
split_put_from at (s ∷ shapes) zero o p v part bytes there from room long =
    let cut = cut_of s shapes bytes long in
    let front : List ℕ = take (size_of s) bytes in
    let rest : List ℕ = drop (size_of s) bytes in
    let same : view_at at s ≡ v = same_some (view_at at s) v there in
    let none : o ≡ 0 = omega (arith, from, ap (λ (u : View). u.at) same) in
    let fits : p + length part ≤ length front = omega (arith, room, ap size same, cut.front) in
    let place : o + p ≡ p = omega (arith, none) in
    ap (λ (z : ℕ). split (s ∷ shapes) (put_at z part bytes)) place
    ∙ (ap (λ (b : List ℕ). split (s ∷ shapes) (put_at p part b)) (sym cut.is)
    ∙ (ap (split (s ∷ shapes)) (put_front p part front rest fits)
    ∙ split_cons s shapes (put_at p part front) rest (put_at_length p part front fits ∙ cut.front)))
split_put_from at (s ∷ shapes) (suc n) o p v part bytes there from room long =
    let cut = cut_of s shapes bytes long in
    let front : List ℕ = take (size_of s) bytes in
    let rest : List ℕ = drop (size_of s) bytes in
    let ends = line_ends shapes (at + size_of s) n v there in
    let later : v.at ≡ at + size_of s + (o - size_of s) = omega (arith, from, ends.1) in
    let place : o + p ≡ length front + (o - size_of s + p) = omega (arith, from, ends.1, cut.front) in
    ap (λ (z : ℕ). split (s ∷ shapes) (put_at z part bytes)) place
    ∙ (ap (λ (b : List ℕ). split (s ∷ shapes) (put_at (length front + (o - size_of s + p)) part b)) (sym cut.is)
    ∙ (ap (split (s ∷ shapes)) (put_behind (o - size_of s + p) part front rest)
    ∙ (split_cons s shapes front (put_at (o - size_of s + p) part rest) cut.front
    ∙ ap (λ (l : List (List ℕ)). front ∷ l) (split_put_from (at + size_of s) shapes n (o - size_of s) p v part rest there later room cut.rest))))

pub stored_put : (vs : List View) (n p : ℕ) (v : View) (part bytes : List ℕ) → AreStored vs bytes → slice_get vs n ≡ Some v → p + length part ≤ size v
    → split (map shape_of vs) (put_at (v.at + p) part bytes) ≡ put_part n p part (split (map shape_of vs) bytes)
stored_put vs n p v part bytes are there room =
    split_put_from 0 (map shape_of vs) n v.at p v part bytes (subst (λ (us : List View). slice_get us n ≡ Some v) are.line.lined there) (omega arith) room are.long

-- where the part lies in the memory
pub part_inside : (vs : List View) (array at size_ : ℕ) (v : View) (bytes : List ℕ) → AreStored vs bytes → slice_get vs array ≡ Some v → HasPart (split (map shape_of vs) bytes) array at size_
    → (at + size_ ≤ size v) × (v.at + at + size_ ≤ length bytes)
part_inside vs array at size_ v bytes are there part =
    let placed : IsPlaced v bytes = (stored_placed vs bytes are).each array v there in
    let its : get_or (split (map shape_of vs) bytes) array [] ≡ bytes_of v bytes = sym (stored_array vs bytes array v are there) in
    let long : length (get_or (split (map shape_of vs) bytes) array []) ≡ size v = ap length its ∙ length_bytes v bytes placed in
    (omega (arith, part.within, long), omega (arith, part.within, long, placed.ends))
