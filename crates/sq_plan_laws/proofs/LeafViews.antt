-- The views of a leaf are its arrays.
use Rattle.std.proofs.Common.{◌≡◌, ℕ, zero, suc, ◌+◌, ◌-◌, ◌*◌, ◌/◌, ◌%◌, ◌<◌, Bool, true, false, List, [], ◌∷◌, ◌++◌}
use Rattle.std.proofs.Common.{map, length, get_or, slice_get, Some, refl, sym, ap, ap₂, ◌∙◌, subst, arith, ltb}
use Rattle.std.proofs.Common.{ltb-true, ltb-false}
use Rattle.std.specs.List.{All, flat_map, range_with_len}
use Rattle.std.proofs.Math.Nat.{div-lt_iff_lt-mul, mod-lt}
use Rattle.std.proofs.lemmas.Nat.{div-mul-add, mod-mul-add, div-add-mod'}
use Rattle.std.proofs.lemmas.List.{get_or_append_left, get_or-append-add, length-append}
use Rattle.std.proofs.lemmas.List.FromFn.{length-range_with_len, get_or-range_with_len}
use Rattle.sq_num.specs.Elements.{width}
use Rattle.sq_text.specs.declared.place.Span.{Span}
use Rattle.sq_rect.specs.declared.view.View.{View}
use Rattle.sq_rect.specs.Extents.{product}
use Rattle.sq_rect.specs.Placing.{place_of}
use Rattle.sq_rect.specs.Rows.{numbers_in}
use Rattle.sq_leaf.specs.declared.shape.Shape.{Shape}
use Rattle.sq_leaf.specs.Leaf.{Leaf as LeafSource, written_of}
use Rattle.sq_ir.specs.Events as events
use Rattle.sq_ir.specs.Events.{coordinates, places, Leaves}
use Rattle.sq_placed.specs.Seats.{Seat}
use Rattle.sq_cells.specs.Cells.{spot}
use Rattle.sq_cells.specs.Tree.{Cause}
use Rattle.sq_cells.specs.Lowered.{Layout}
use Rattle.sq_cells.specs.LeafCode.{AreViews}
use Rattle.sq_plan_laws.specs.Coordinates.{coordinate}
use Rattle.sq_plan_laws.specs.OnBytes.{size_in}
use Rattle.sq_plan_laws.proofs.Coordinates.{element_under}
use Rattle.sq_plan_laws.proofs.PlacedLists.{mapped, mapped_from}
use Rattle.sq_cells.specs.Alike.{IsCalled}
use Rattle.sq_plan_laws.specs.Seated.{IsLined, shape_of, IsSeated, AreAt}
use Rattle.sq_plan_laws.specs.LeafLaws.{event_shape}
use Rattle.sq_plan_laws.proofs.Places.{length-mapped}

-- ---- lists of lists that are equally long

module _ {A B : Type 0} (f : A → List B) (n : ℕ) (long : (x : A) → length (f x) ≡ n) where
  length_flat : (xs : List A) → length (flat_map f xs) ≡ length xs * n
  length_flat [] = let e : zero ≡ zero * n = omega arith in e
  length_flat (x ∷ xs) = let h = length_flat xs in let e = long x in length-append (f x) (flat_map f xs)
      ∙ omega (arith, e, h)

  get_flat : (xs : List A) (k : ℕ) (d : B) (e : A) → k < length xs * n → get_or (flat_map f xs) k d
      ≡ get_or (f (get_or xs (k / n) e)) (k % n) d
  get_flat [] k d e lt = let z : zero * n ≡ zero = omega arith in absurd (omega (arith, lt, z))
  get_flat (x ∷ xs) k d e lt = by (ltb k n) refl (λ j l. get_flat xs j d e l)
    where
      by : (b : Bool) → ltb k n ≡ b →
          ((j : ℕ) → j < length xs * n → get_or (flat_map f xs) j d ≡ get_or (f (get_or xs (j / n) e)) (j % n) d)
          → get_or (f x ++ flat_map f xs) k d ≡ get_or (f (get_or (x ∷ xs) (k / n) e)) (k % n) d
      by true l rec =
          let lk = ltb-true k n l in
          let le = long x in
          let a : k / n ≡ 0 = let z : k ≡ 0 * n + k = omega arith in ap (λ y. y / n) z ∙ div-mul-add 0 n k lk in
          let b : k % n ≡ k = let z : k ≡ 0 * n + k = omega arith in ap (λ y. y % n) z ∙ mod-mul-add 0 n k lk in
          get_or_append_left (f x) (flat_map f xs) d k (omega (arith, lk, le))
          ∙ sym (ap₂ (λ i j. get_or (f (get_or (x ∷ xs) i e)) j d) a b)
      by false l rec =
          let ge = ltb-false k n l in
          let le = long x in
          let j = k - n in
          let lj : j < length xs * n = omega (arith, lt, ge) in
          let some : 0 < n = some_of (length xs) n j lj in
          let q = j / n in
          let r = j % n in
          let dm = div-add-mod' j n in
          let lr : r < n = mod-lt j some in
          let z : k ≡ suc q * n + r = omega (arith, dm, ge) in
          let a : k / n ≡ suc q = ap (λ y. y / n) z ∙ div-mul-add (suc q) n r lr in
          let b : k % n ≡ r = ap (λ y. y % n) z ∙ mod-mul-add (suc q) n r lr in
          let front : k ≡ length (f x) + j = omega (arith, le, ge) in
          ap (λ y. get_or (f x ++ flat_map f xs) y d) front ∙ get_or-append-add (f x) (flat_map f xs) j d ∙ rec j lj
          ∙ sym (ap₂ (λ i y. get_or (f (get_or (x ∷ xs) i e)) y d) a b)
        where
          some_of : (n m r : ℕ) → r < n * m → 0 < m
          some_of n zero r lt = let z : n * 0 ≡ 0 = omega arith in absurd (omega (arith, lt, z))
          some_of n (suc m) r lt = omega arith

get_map : {A B : Type 0} (f : A → B) (xs : List A) (i : ℕ) (d : A) (e : B) → i < length xs → get_or (map f xs) i e
    ≡ f (get_or xs i d)
get_map f [] i d e lt = absurd (omega arith)
get_map f (x ∷ xs) zero d e lt = refl
get_map f (x ∷ xs) (suc i) d e lt = get_map f xs i d e (omega arith)

-- ---- coordinates in order

spans : List ℕ → List Span
spans ns = map (λ n. record { lo = 0; hi = n }) ns

length_numbers : (n : ℕ) → length (numbers_in (record { lo = 0; hi = n })) ≡ n
length_numbers n = length-range_with_len 0 (n - 0) ∙ omega arith

get_number : (n i : ℕ) → i < n → get_or (numbers_in (record { lo = 0; hi = n })) i 0 ≡ i
get_number n i lt = let l : i < n - 0 = omega (arith, lt) in get_or-range_with_len 0 (n - 0) i 0 l ∙ omega arith

length_coordinates : (ns : List ℕ) → length (coordinates ns) ≡ product ns
length_coordinates [] = refl
length_coordinates (n ∷ ns) =
    length_flat (λ x. map (λ c. x ∷ c) (coordinates ns)) (product ns)
    (λ x. length-mapped (λ c. x ∷ c) (coordinates ns) ∙ length_coordinates ns)
    (numbers_in (record { lo = 0; hi = n }))
    ∙ ap (λ m. m * product ns) (length_numbers n)

some_last : (n m r : ℕ) → r < n * m → 0 < m
some_last n zero r lt = let z : n * 0 ≡ 0 = omega arith in absurd (omega (arith, lt, z))
some_last n (suc m) r lt = omega arith

get_coordinate : (ns : List ℕ) (k : ℕ) → k < product ns → get_or (coordinates ns) k [] ≡ coordinate ns k
get_coordinate [] k lt = let e : k ≡ 0 = omega (arith, lt) in ap (λ i. get_or ([] ∷ []) i []) e
get_coordinate (n ∷ ns) k lt =
    let m = product ns in
    let some = some_last n m k lt in
    let lq : k / m < n = (div-lt_iff_lt-mul some).1 lt in
    let lr : k % m < m = mod-lt k some in
    let long : (x : ℕ) → length (map (λ c. x ∷ c) (coordinates ns)) ≡ m
    = λ x. length-mapped (λ c. x ∷ c) (coordinates ns) ∙ length_coordinates ns in
    get_flat (λ x. map (λ c. x ∷ c) (coordinates ns)) m long (numbers_in (record { lo = 0; hi = n })) k [] 0
    (subst (λ y. k < y * m) (sym (length_numbers n)) lt)
    ∙ ap (λ x. get_or (map (λ c. x ∷ c) (coordinates ns)) (k % m) []) (get_number n (k / m) lq)
    ∙ get_map (λ c. (k / m) ∷ c) (coordinates ns) (k % m) [] []
    (subst (λ y. k % m < y) (sym (length_coordinates ns)) lr)
    ∙ ap (λ c. (k / m) ∷ c) (get_coordinate ns (k % m) lr)

-- ---- places

module _ (v : View) where
  abbrev element : List ℕ → List ℕ
  element c = range_with_len (place_of v c) (width v.elem)

  long_element : (c : List ℕ) → length (element c) ≡ width v.elem
  long_element c = length-range_with_len (place_of v c) (width v.elem)

  pub length_places : length (places v) ≡ product v.extents * width v.elem
  length_places = length_flat element (width v.elem) long_element (coordinates v.extents)
      ∙ ap (λ m. m * width v.elem) (length_coordinates v.extents)

  pub get_place : (k : ℕ) → k < product v.extents * width v.elem → get_or (places v) k 0
      ≡ place_of v (coordinate v.extents (k / width v.elem)) + k % width v.elem
  get_place k lt =
      let u = element_under v.extents (width v.elem) k lt in
      get_flat element (width v.elem) long_element (coordinates v.extents) k 0 []
      (subst (λ m. k < m * width v.elem) (sym (length_coordinates v.extents)) lt)
      ∙ get_or-range_with_len (place_of v (get_or (coordinates v.extents) (k / width v.elem) [])) (width v.elem)
      (k % width v.elem) 0 u.3
      ∙ ap (λ c. place_of v c + k % width v.elem) (get_coordinate v.extents (k / width v.elem) u.1)

-- ---- the views

event_shapes : (seats : List Seat) → map event_shape (map shape_of seats)
    ≡ map events.shape_of (map (λ (q : Seat). q.view) seats)
event_shapes [] = refl
event_shapes (q ∷ qs) = ap (λ l. event_shape (shape_of q) ∷ l) (event_shapes qs)

all_of : {X : Type 0} (P : X → Type 0) (xs : List X) → ((n : ℕ) (x : X) → slice_get xs n ≡ Some x → P x) → All P xs
all_of P [] h n d low = absurd (omega arith)
all_of P (x ∷ xs) h zero d low = h 0 x refl
all_of P (x ∷ xs) h (suc n) d low = all_of P xs (λ m y is. h (suc m) y is) n d (omega arith)

lined_lengths : (ns ss : List ℕ) → IsLined ns ss → length ss ≡ length ns
lined_lengths [] ss h = absurd h
lined_lengths (n ∷ []) [] h = absurd h
lined_lengths (n ∷ []) (s ∷ []) h = refl
lined_lengths (n ∷ []) (s ∷ t ∷ ss) h = absurd h
lined_lengths (n ∷ m ∷ []) [] h = absurd h
lined_lengths (n ∷ m ∷ []) (s ∷ []) h = absurd h
lined_lengths (n ∷ m ∷ []) (s ∷ t ∷ []) h = refl
lined_lengths (n ∷ m ∷ []) (s ∷ t ∷ u ∷ ss) h = absurd h
lined_lengths (n ∷ m ∷ k ∷ []) [] h = absurd h
lined_lengths (n ∷ m ∷ k ∷ []) (s ∷ []) h = absurd h
lined_lengths (n ∷ m ∷ k ∷ []) (s ∷ t ∷ []) h = absurd h
lined_lengths (n ∷ m ∷ k ∷ []) (s ∷ t ∷ u ∷ []) h = refl
lined_lengths (n ∷ m ∷ k ∷ []) (s ∷ t ∷ u ∷ v ∷ ss) h = absurd h
lined_lengths (n ∷ m ∷ k ∷ l ∷ ns) ss h = absurd h

module _ (leaves : Leaves Cause) (node code : ℕ) (leaf : LeafSource) (outer : List Shape) (seats : List Seat)
    (at : Layout) (written : leaves.written code ≡ written_of leaf.variant) (seated : IsSeated outer seats at)
    (here : AreAt node seats) where
  pub shapes_same : map event_shape outer ≡ map events.shape_of (map (λ (q : Seat). q.view) seats)
  shapes_same = ap (map event_shape) (sym seated.shapes) ∙ event_shapes seats

  pub are_views : AreViews node (leaves.written code) (map (λ (q : Seat). q.view) seats) (length outer)
      (λ i. size_in (slice_get outer i)) (λ i. get_or (written_of leaf.variant) i false) (λ i k. at (spot i k))
  are_views = record {
    many = ap length (sym seated.shapes) ∙ length-mapped shape_of seats
        ∙ sym (length-mapped (λ (q : Seat). q.view) seats);
    size_is = λ i v e.
        let m = mapped_from (λ (q : Seat). q.view) seats i v e in
        ap size_in (size_at i m.0 m.1) ∙ sym (length_places m.0.view) ∙ ap (λ x. length (places x)) (sym m.2);
    cell_is = λ i k v e lt.
        let m = mapped_from (λ (q : Seat). q.view) seats i v e in
        let l : k < product m.0.view.extents * width m.0.view.elem
        = subst (λ x. k < x) (length_places m.0.view) (subst (λ x. k < length (places x)) m.2 lt) in
        seated.cells i k m.0 m.1 l ∙ ap₂ spot (here i m.0 m.1) (sym (get_place m.0.view k l))
        ∙ ap (λ x. spot node (get_or (places x) k 0)) (sym m.2);
    writes_is = λ i li. ap (λ ws. get_or ws i false) (sym written);
  }
    where
      size_at : (i : ℕ) (q : Seat) → slice_get seats i ≡ Some q → slice_get outer i ≡ Some (shape_of q)
      size_at i q e = ap (λ o. slice_get o i) (sym seated.shapes) ∙ mapped shape_of seats i q e

  pub is_called : leaves.shapes code ≡ Some (map event_shape outer)
      → ((n : ℕ) (sh : Shape) → slice_get outer n ≡ Some sh → All (λ k. 0 < k) sh.extents)
      → IsCalled leaves code (map (λ (q : Seat). q.view) seats)
  is_called there some = record {
    shapes = there ∙ ap Some shapes_same;
    strides = all_of (λ v. length v.strides ≡ length v.extents) (map (λ (q : Seat). q.view) seats)
        (λ n v e. let m = mapped_from (λ (q : Seat). q.view) seats n v e in subst
        (λ x. length x.strides ≡ length x.extents) (sym m.2)
        (lined_lengths m.0.view.extents m.0.view.strides (seated.lined n m.0 m.1)));
    some = all_of (λ v. All (λ n. 0 < n) v.extents) (map (λ (q : Seat). q.view) seats)
        (λ n v e. let m = mapped_from (λ (q : Seat). q.view) seats n v e in subst
        (λ (x : View). All (λ n. 0 < n) x.extents) (sym m.2)
        (some n (shape_of m.0) (ap (λ o. slice_get o n) (sym seated.shapes) ∙ mapped shape_of seats n m.0 m.1)));
  }
