-- A run of a leaf's code is its event.
use Rattle.std.proofs.Common.{◌≡◌, ℕ, zero, suc, ◌+◌, ◌*◌, ◌<◌, ◌≤◌, Bool, true, false, ◌&&◌, List, [], ◌∷◌, length, map, get_or, take, drop, Some, Result, Ok, Err, ℤ, refl, sym, ap, ap₂, ◌∙◌, subst, arith, true≢false}
use Rattle.std.specs.Prelude.{if◌then◌else◌, nat_eq, ◌||◌}
use Rattle.std.specs.List.{All, range_with_len, slice_get}
use Rattle.std.specs.Option.{option_map, option_map_or}
use Rattle.std.proofs.lemmas.Option.{slice_get-map}
use Rattle.std.proofs.lemmas.List.FromFn.{length-map-range_with_len}
use Rattle.std.proofs.lemmas.Bool.Decides.{nat_tests}
use Rattle.std.proofs.Math.Nat.{mul-le-mul_left}
use Rattle.sq_num.specs.Elements.{width, value, cell}
use Rattle.sq_num.proofs.Cutting.{cell-value}
use Rattle.sq_leaf.specs.Rect.declared.view.View.{View}
use Rattle.sq_leaf.specs.Rect.Placing.{IsIn, offset, place_of}
use Rattle.sq_leaf.specs.declared.trap.Trap.{Trap}
use Rattle.sq_leaf.specs.Source.{Arrays}
use Rattle.sq_leaf.specs.Places.{reach}
use Rattle.sq_leaf.specs.Spots.{IsInside, load}
use Rattle.sq_leaf.specs.Views as views
use Rattle.sq_leaf.specs.Views.{spot_of, CanRun, Shows, Keeps, IsOutside, HasByte}
use Rattle.sq_leaf.specs.Leaf.{written_of, leaf_value, IsMeant}
use Rattle.sq_ir.specs.Events.{Spot, Bytes, Leaf, coordinates, places, is_among, in_view, in_views, shape_of, Array, seen, chosen, Finishes, stored, put, put_end, trap_end, after_event}
use Rattle.sq_ir.specs.DraftLeaves.{element_of, arrays_of, bytes_of, written_bytes, end_by, leaf_shape, shape_in, leaf_end, leaf_at, leaves_of}
use Rattle.sq_ir.specs.LeafRuns.{Holds, AreBytes, trap_at, RunsAreEvents, RunsKeepOthers}
use Rattle.sq_ir.proofs.LeafPieces.{at_all, read_from, map_same, piece_there, pieces_same, among_pieces, stored_there, is_in, has, in_reach}

-- the byte k of a node
abbrev byte : (node k : ℕ) → Spot
byte node k = record { node = node; at = k }

-- ---- what a run sees and leaves

-- the last byte of an element lies in the memory
pub element_inside : (size : ℕ) (v : View) (c : List ℕ) → IsInside size v → IsIn v.extents c → place_of v c + width v.elem ≤ size
element_inside size v c inside h =
    let near = in_reach v.extents v.strides c h in
    let far : width v.elem * offset v.strides c ≤ width v.elem * reach v.extents v.strides = mul-le-mul_left (width v.elem) near in
    let ends = inside.ends in
    let more : width v.elem * (reach v.extents v.strides + 1) ≡ width v.elem * reach v.extents v.strides + width v.elem = omega arith in
    omega (arith, far, ends, more)

-- the bytes of an element, one by one
pub element_bytes : (bytes : List ℕ) (v : View) (c : List ℕ) → IsInside (length bytes) v → IsIn v.extents c
    → take (width v.elem) (drop (place_of v c) bytes) ≡ map (λ k. get_or bytes k 0) (range_with_len (place_of v c) (width v.elem))
element_bytes bytes v c inside h = read_from bytes (place_of v c) (width v.elem) (element_inside (length bytes) v c inside h)

pub shows_seen : (node : ℕ) (m : Bytes) (bytes : List ℕ) (vs : List View) → Holds node m bytes → All (IsInside (length bytes)) vs → Shows vs bytes (arrays_of (map (seen node m) vs))
shows_seen node m bytes vs holds inside = record { shown = λ n v c there h. shown n v c there h }
  where
    f : ℕ → ℕ
    f k = m (byte node k)

    shown : (n : ℕ) (v : View) (c : List ℕ) → slice_get vs n ≡ Some v → IsIn v.extents c → load (spot_of v c) bytes ≡ arrays_of (map (seen node m) vs) n c
    shown n v c there h =
        let here = at_all (IsInside (length bytes)) vs n v inside there in
        let low = element_inside (length bytes) v c here h in
        let is = slice_get-map (seen node m) vs n ∙ ap (option_map (seen node m)) there in
        let piece = piece_there (width v.elem) (place_of v) f (coordinates v.extents) c (has v.extents c h) in
        let same = map_same f (λ k. get_or bytes k 0) (place_of v c) (width v.elem) (λ k from below. holds.each k (omega (arith, low))) in
        ap (value v.elem) (element_bytes bytes v c here h) ∙ ap (value v.elem) (sym (piece ∙ same)) ∙ sym (ap (λ o. element_of o c) is)

small_range : (f : ℕ → ℕ) (p n i : ℕ) → ((k : ℕ) → f k < 256) → get_or (map f (range_with_len p n)) i 0 < 256
small_range f p zero i h = omega arith
small_range f p (suc n) zero h = h p
small_range f p (suc n) (suc i) h = small_range f (p + 1) n i h

-- the bytes of an element that the views show
pub cell_shown : (bytes : List ℕ) (v : View) (c : List ℕ) (z : ℤ) → AreBytes bytes → IsInside (length bytes) v → IsIn v.extents c → load (spot_of v c) bytes ≡ z
    → cell v.elem z ≡ map (λ k. get_or bytes k 0) (range_with_len (place_of v c) (width v.elem))
cell_shown bytes v c z small inside h shown =
    let f : ℕ → ℕ = λ k. get_or bytes k 0 in
    let piece = element_bytes bytes v c inside h in
    let long = ap length piece ∙ length-map-range_with_len f (place_of v c) (width v.elem) in
    let low : (i : ℕ) → get_or (take (width v.elem) (drop (place_of v c) bytes)) i 0 < 256 =
    λ i. subst (λ l. get_or l i 0 < 256) (sym piece) (small_range f (place_of v c) (width v.elem) i small) in
    ap (cell v.elem) (sym shown) ∙ cell-value v.elem (take (width v.elem) (drop (place_of v c) bytes)) long low ∙ piece

pub bytes_shown : (bytes : List ℕ) (v : View) (element : List ℕ → ℤ) → AreBytes bytes → IsInside (length bytes) v → ((c : List ℕ) → IsIn v.extents c → load (spot_of v c) bytes ≡ element c)
    → bytes_of (shape_of v) element ≡ map (λ k. get_or bytes k 0) (places v)
bytes_shown bytes v element small inside shown =
    pieces_same (λ c. cell v.elem (element c)) (place_of v) (λ k. get_or bytes k 0) (width v.elem) (coordinates v.extents)
    (λ c there. cell_shown bytes v c (element c) small inside (is_in v.extents c there) (shown c (is_in v.extents c there)))

-- a byte of an element is one of its view's
pub byte_there : (v : View) (c : List ℕ) (k : ℕ) → IsIn v.extents c → HasByte v c k → is_among (places v) k ≡ true
byte_there v c k h b = among_pieces (width v.elem) (place_of v) (coordinates v.extents) c k (has v.extents c h) b.from b.below

-- ---- the bytes that are put

-- the array of each written view, from the i-th on, has the bytes f
abbrev pub Puts : (f : ℕ → ℕ) (i : ℕ) (written : List Bool) (vs : List View) (b : Arrays) → Type 0
Puts f i written vs b = (n : ℕ) (v : View) → get_or written n false ≡ true → slice_get vs n ≡ Some v → bytes_of (shape_of v) (b (i + n)) ≡ map f (places v)

abbrev pub Misses : (node k : ℕ) (written : List Bool) (vs : List View) → Type 0
Misses node k written vs = (n : ℕ) (v : View) → get_or written n false ≡ true → slice_get vs n ≡ Some v → in_view node v (byte node k) ≡ false

same_number : (k : ℕ) → nat_eq k k ≡ true
same_number k = grind (arith, nat_tests)

both : (u v : Bool) → u ≡ true → v ≡ true → (u && v) ≡ true
both true v h k = k
both false v h k = cc

second : (u v : Bool) → (u && v) ≡ true → v ≡ true
second true v h = h
second false v h = cc

not_here : (node k : ℕ) (v : View) (ws : List Bool) (vs : List View) → in_view node v (byte node k) ≡ false → Misses node k ws vs → Misses node k (true ∷ ws) (v ∷ vs)
not_here node k v ws vs e miss zero u g s = let same : v ≡ u = cc in subst (λ x. in_view node x (byte node k) ≡ false) same e
not_here node k v ws vs e miss (suc n) u g s = miss n u g s

not_written : (node k : ℕ) (v : View) (ws : List Bool) (vs : List View) → Misses node k ws vs → Misses node k (false ∷ ws) (v ∷ vs)
not_written node k v ws vs miss zero u g s = cc
not_written node k v ws vs miss (suc n) u g s = miss n u g s

onward : (f : ℕ → ℕ) (i : ℕ) (w : Bool) (ws : List Bool) (v : View) (vs : List View) (b : Arrays) → Puts f i (w ∷ ws) (v ∷ vs) b → Puts f (suc i) ws vs b
onward f i w ws v vs b puts n u g s =
    let same : i + suc n ≡ suc i + n = omega arith in
    subst (λ j. bytes_of (shape_of u) (b j) ≡ map f (places u)) same (puts (suc n) u g s)

pub put_bytes : (node k : ℕ) (f : ℕ → ℕ) (m : Bytes) (i : ℕ) (written : List Bool) (vs : List View) (b : Arrays) (x : ℕ) → Puts f i written vs b → (Misses node k written vs → x ≡ f k)
    → put node (chosen written vs) (written_bytes i written (map shape_in (map (seen node m) vs)) b) (byte node k) x ≡ f k
put_bytes node k f m i [] vs b x puts misses = misses (λ n v g s. cc)
put_bytes node k f m i (w ∷ ws) [] b x puts misses = misses (λ n v g s. cc)
put_bytes node k f m i (false ∷ ws) (v ∷ vs) b x puts misses = put_bytes node k f m (suc i) ws vs b x (onward f i false ws v vs b puts) (λ miss. misses (not_written node k v ws vs miss))
put_bytes node k f m i (true ∷ ws) (v ∷ vs) b x puts misses =
    by_view (in_view node v (byte node k)) refl (λ e. put_bytes node k f m (suc i) ws vs b x (onward f i true ws v vs b puts) (λ miss. misses (not_here node k v ws vs e miss)))
  where
    rest : ℕ
    rest = put node (chosen ws vs) (written_bytes (suc i) ws (map shape_in (map (seen node m) vs)) b) (byte node k) x

    first : bytes_of (shape_of v) (b i) ≡ map f (places v)
    first = let same : i + 0 ≡ i = omega arith in subst (λ j. bytes_of (shape_of v) (b j) ≡ map f (places v)) same (puts 0 v refl refl)

    by_view : (t : Bool) → in_view node v (byte node k) ≡ t → (in_view node v (byte node k) ≡ false → rest ≡ f k)
        → (if t then stored (places v) (bytes_of (shape_of v) (b i)) k x else rest) ≡ f k
    by_view true e others = ap (λ l. stored (places v) l k x) first ∙ stored_there (places v) f k x (second (nat_eq node node) (is_among (places v) k) e)
    by_view false e others = others e

-- ---- the law

pub shapes_seen : (node : ℕ) (m : Bytes) (vs : List View) → map leaf_shape (map shape_in (map (seen node m) vs)) ≡ map views.shape_of vs
shapes_seen node m [] = refl
shapes_seen node m (v ∷ vs) = ap (λ l. views.shape_of v ∷ l) (shapes_seen node m vs)

pub runs_are_events : RunsAreEvents
runs_are_events d code l there vs before after answer run node m path holds =
    let whole = decided (leaf_value l (map views.shape_of vs) shown) (run.meant shown (shows_seen node m before vs holds run.may.inside)) in
    let each : answer ≡ Ok tt → (k : ℕ) → k < length after → after_event (leaves_of d) (Leaf node code vs path) m (byte node k) ≡ f k =
    λ e k low. ap₂ (λ ws w. put_end node (chosen ws vs) w (byte node k) (m (byte node k))) written ended ∙ whole.1 e k low in
    (ap (trap_end path) ended ∙ whole.0, λ e. record { each = each e })
  where
    xs : List Array
    xs = map (seen node m) vs

    shown : Arrays
    shown = arrays_of xs

    f : ℕ → ℕ
    f k = get_or after k 0

    written : option_map_or (λ l. written_of l.variant) (leaf_at d code) [] ≡ written_of l.variant
    written = ap (λ o. option_map_or (λ l. written_of l.variant) o []) there

    ended : option_map_or (λ l. leaf_end l xs) (leaf_at d code) (Finishes []) ≡ end_by (written_of l.variant) (map shape_in xs) (leaf_value l (map views.shape_of vs) shown)
    ended = ap (λ o. option_map_or (λ l. leaf_end l xs) o (Finishes [])) there ∙ ap (λ ss. end_by (written_of l.variant) (map shape_in xs) (leaf_value l ss shown)) (shapes_seen node m vs)

    inside : (n : ℕ) (v : View) → slice_get vs n ≡ Some v → IsInside (length after) v
    inside n v s = subst (λ size. IsInside size v) (sym run.kept.size) (at_all (IsInside (length before)) vs n v run.may.inside s)

    puts : (b : Arrays) → Shows vs after b → Puts f 0 (written_of l.variant) vs b
    puts b shows n v g s =
        let same : n ≡ 0 + n = omega arith in
        subst (λ j. bytes_of (shape_of v) (b j) ≡ map f (places v)) same (bytes_shown after v (b n) run.bytes (inside n v s) (λ c h. shows.shown n v c s h))

    outside : (k : ℕ) → k < length after → Misses node k (written_of l.variant) vs → m (byte node k) ≡ f k
    outside k low miss =
        let size = run.kept.size in
        let none : IsOutside vs (written_of l.variant) k = record {
          none = λ n v c g s h stands.
              let here : in_view node v (byte node k) ≡ true = both (nat_eq node node) (is_among (places v) k) (same_number node) (byte_there v c k h stands) in
              let there : in_view node v (byte node k) ≡ false = miss n v g s in
              true≢false (sym here ∙ there);
        } in
        holds.each k (omega (arith, size, low)) ∙ sym (run.kept.outside k none)

    decided : (r : Result Arrays Trap) → IsMeant vs after answer r
        → (trap_end path (end_by (written_of l.variant) (map shape_in xs) r) ≡ trap_at path answer)
        × (answer ≡ Ok tt → (k : ℕ) → k < length after → put_end node (chosen (written_of l.variant) vs) (end_by (written_of l.variant) (map shape_in xs) r) (byte node k) (m (byte node k)) ≡ f k)
    decided (Ok b) h = (ap (trap_at path) (sym h.0), λ e k low. put_bytes node k f m 0 (written_of l.variant) vs b (m (byte node k)) (puts b h.1) (outside k low))
    decided (Err t) h = (ap (trap_at path) (sym h), λ e k low. cc)

-- ---- bytes outside the written views

neither : (u v : Bool) → (u || v) ≡ false → (u ≡ false) × (v ≡ false)
neither true v h = cc
neither false v h = (refl, h)

pub misses_all : (node k : ℕ) (written : List Bool) (vs : List View)
    → in_views node (chosen written vs) (byte node k) ≡ false → Misses node k written vs
misses_all node k [] vs h = λ n v g s. cc
misses_all node k (w ∷ ws) [] h = λ n v g s. cc
misses_all node k (false ∷ ws) (v ∷ vs) h = not_written node k v ws vs (misses_all node k ws vs h)
misses_all node k (true ∷ ws) (v ∷ vs) h =
    let e = neither (in_view node v (byte node k)) (in_views node (chosen ws vs) (byte node k)) h in
    not_here node k v ws vs e.0 (misses_all node k ws vs e.1)

pub runs_keep_others : RunsKeepOthers
runs_keep_others d code l there vs before after kept node k h =
    let written : option_map_or (λ l. written_of l.variant) (leaf_at d code) [] ≡ written_of l.variant =
    ap (λ o. option_map_or (λ l. written_of l.variant) o []) there in
    let miss =
    misses_all node k (written_of l.variant) vs
    (subst (λ ws. in_views node (chosen ws vs) (byte node k) ≡ false) written h) in
    let none : IsOutside vs (written_of l.variant) k = record {
      none = λ n v c g s h stands.
          let here : in_view node v (byte node k) ≡ true =
          both (nat_eq node node) (is_among (places v) k) (same_number node) (byte_there v c k h stands) in
          let there : in_view node v (byte node k) ≡ false = miss n v g s in
          true≢false (sym here ∙ there);
    } in
    kept.outside k none
