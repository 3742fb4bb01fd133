-- A leaf of a plan does on bytes what it means on numbers.
use Rattle.std.proofs.Common.{◌≡◌, ℕ, zero, suc, ◌+◌, ◌*◌, ◌<◌, ◌≤◌, Bool, true, false, List, [], ◌∷◌, ◌++◌, length}
use Rattle.std.proofs.Common.{map, get_or, reverse, refl, sym, ap, ap₂, ◌∙◌, subst, arith, ⊎_elim}
use Rattle.std.specs.Prelude.{Option, Some, slice_get, Result, Ok, Err}
use Rattle.std.proofs.Math.Nat.{mul-le-mul_right}
use Rattle.std.proofs.lemmas.List.{reverse-append}
use Rattle.sq_num.specs.Elements.{width, value, cell, IsValue}
use Rattle.sq_num.proofs.Cutting.{value-cell, cut-value, length-cell, value-fits}
use Rattle.sq_rect.specs.Extents.{product}
use Rattle.sq_rect.specs.Placing.{IsIn}
use Rattle.sq_rect.proofs.Placing.{inside}
use Rattle.sq_leaf.specs.declared.shape.Shape.{Shape}
use Rattle.sq_leaf.specs.declared.trap.Trap.{Trap}
use Rattle.sq_leaf.specs.Source.{Arrays}
use Rattle.sq_leaf.specs.Leaf.{Leaf, written_of, leaf_value}
use Rattle.sq_work.specs.Meaning.{leaf_outcome}
use Rattle.sq_ir.specs.Events as events
use Rattle.sq_ir.specs.Events.{coordinates, Finishes, Traps}
use Rattle.sq_ir.specs.DraftLeaves.{element_of, arrays_of, bytes_of, written_bytes, end_by, leaf_shape, shape_in}
use Rattle.sq_cells.specs.Cells.{Spot, spot, State, put_if, table}
use Rattle.sq_cells.specs.Tree.{leaf_of, values, value_in, store}
use Rattle.sq_cells.specs.Work as bytes
use Rattle.sq_cells.specs.Work.{Ends}
use Rattle.sq_cells.proofs.Cells.{put_in, put_out}
use Rattle.sq_cells.proofs.Access.{end_or_below}
use Rattle.sq_plan_laws.specs.Coordinates.{number}
use Rattle.sq_plan_laws.specs.Codes.{listed, bytes_in, loaded, Codes, SameOutcome}
use Rattle.sq_plan_laws.specs.OnBytes.{size_in, leaf_work}
use Rattle.sq_plan_laws.specs.Fitting.{LeafCoded}
use Rattle.sq_cells.specs.LeafCode.{arrays, over, spread, given}
use Rattle.sq_plan_laws.specs.LeafLaws.{AgreeIn, AreValues, EndAlike, IsInside, IsLeafOf, event_shape, codes_of}
use Rattle.sq_plan_laws.proofs.Coordinates.{byte_below}
use Rattle.sq_plan_laws.proofs.PlacedLists.{listed_same, listed_all, listed_length, same_some, there_below}
use Rattle.sq_plan_laws.proofs.Elements.{table_listed}
use Rattle.sq_plan_laws.proofs.Ordered.{coordinates_length, coordinate_at, at_one, piece_is, part_listed}
use Rattle.sq_plan_laws.proofs.Ordered.{flat_length, flat_at}

-- ---- what the code is given

-- the arrays of these shapes, with the bytes of f
seen_at : (shapes : List Shape) (f : ℕ → List ℕ) (n : ℕ) (sh : Shape) → slice_get shapes n ≡ Some sh
    → slice_get (arrays (map event_shape shapes) (listed (length shapes) f)) n
    ≡ Some (record { shape = event_shape sh; bytes = reverse (f n) })
seen_at [] f n sh e = cc
seen_at (s ∷ shapes) f zero sh e = let same : s ≡ sh
    = same_some e in ap (λ (z : Shape). Some (record { shape = event_shape z; bytes = reverse (f 0) })) same
seen_at (s ∷ shapes) f (suc n) sh e = seen_at shapes (λ k. f (suc k)) n sh e

seen_shapes : (shapes : List Shape) (f : ℕ → List ℕ)
    → map shape_in (arrays (map event_shape shapes) (listed (length shapes) f)) ≡ map event_shape shapes
seen_shapes [] f = refl
seen_shapes (s ∷ shapes) f = ap (λ (l : List events.Shape). event_shape s ∷ l) (seen_shapes shapes (λ k. f (suc k)))

shapes_back : (shapes : List Shape) → map leaf_shape (map event_shape shapes) ≡ shapes
shapes_back [] = refl
shapes_back (s ∷ shapes) = ap (λ (l : List Shape). s ∷ l) (shapes_back shapes)

-- an element as the code sees it
seen_element : (sh : Shape) (x : ℕ → ℕ) (cs : List ℕ) → IsIn sh.extents cs
    → element_of (Some (record { shape = event_shape sh; bytes = listed (bytes_in sh) x })) cs ≡ loaded sh x cs
seen_element sh x cs at =
    let w : ℕ = width sh.elem in
    let low : number sh.extents cs < product sh.extents = inside sh.extents cs at in
    ap (value sh.elem)
    (piece_is w (coordinates sh.extents) (listed (bytes_in sh) x) cs (number sh.extents cs)
    (coordinate_at sh.extents cs at) (λ j e. at_one sh.extents cs j e)
    ∙ part_listed (bytes_in sh) (number sh.extents cs * w) w x (room (number sh.extents cs) (product sh.extents) w low))
  where
    room : (o p w : ℕ) → o < p → o * w + w ≤ p * w
    room o p w lt = let z : suc o * w ≤ p * w = mul-le-mul_right w lt in omega (arith, z)

-- ---- what it leaves

long_bytes : (sh : Shape) (a : List ℕ → _) → length (bytes_of (event_shape sh) a) ≡ bytes_in sh
long_bytes sh a = flat_length (width sh.elem) (λ c. cell sh.elem (a c)) (coordinates sh.extents)
    (λ c. length-cell sh.elem (a c)) ∙ ap (λ m. m * width sh.elem) (coordinates_length sh.extents)

over_all : (o l : List ℕ) → length o ≡ length l → over o l ≡ o
over_all [] [] e = refl
over_all [] (x ∷ l) e = absurd (omega (arith, e))
over_all (b ∷ o) [] e = absurd (omega (arith, e))
over_all (b ∷ o) (x ∷ l) e = ap (λ (r : List ℕ). b ∷ r) (over_all o l (omega (arith, e)))

left_at : (ws : List Bool) (xs : List events.Array) (i : ℕ) (b : Arrays) (n : ℕ) (x : events.Array) → slice_get xs n
    ≡ Some x → get_or ws n false ≡ true
    → get_or (spread ws (written_bytes i ws (map shape_in xs) b) xs) n [] ≡ over (bytes_of x.shape (b (i + n))) x.bytes
left_at [] xs i b n x e w = cc
left_at (w ∷ ws) [] i b n x e h = cc
left_at (true ∷ ws) (y ∷ xs) i b zero x e h =
    let same : y ≡ x = same_some e in
    let here : i ≡ i + 0 = omega arith in
    ap₂ (λ (z : events.Array) k. over (bytes_of z.shape (b k)) z.bytes) same here
left_at (true ∷ ws) (y ∷ xs) i b (suc n) x e h =
    let next : suc i + n ≡ i + suc n = omega arith in
    left_at ws xs (suc i) b n x e h ∙ ap (λ k. over (bytes_of x.shape (b k)) x.bytes) next
left_at (false ∷ ws) (y ∷ xs) i b zero x e h = cc
left_at (false ∷ ws) (y ∷ xs) i b (suc n) x e h =
    let next : suc i + n ≡ i + suc n = omega arith in
    left_at ws xs (suc i) b n x e h ∙ ap (λ k. over (bytes_of x.shape (b k)) x.bytes) next

-- ---- arrays that are stored

area_of : (p q : Spot) → p ≡ q → p.area ≡ q.area
area_of p q e = ap (λ (v : Spot). v.area) e

index_of : (p q : Spot) → p ≡ q → p.index ≡ q.index
index_of p q e = ap (λ (v : Spot). v.index) e

pub stored_kept : (count : ℕ) (size : ℕ → ℕ) (writes : ℕ → Bool) (val : ℕ → ℕ → ℕ) (s : State) (n k : ℕ) → writes n
    ≡ false → store count size writes spot val s (spot n k) ≡ s (spot n k)
stored_kept zero size writes val s n k w = refl
stored_kept (suc i) size writes val s n k w = go (writes i) refl ∙ stored_kept i size writes val s n k w
  where
    go : (b : Bool) → writes i ≡ b → put_if (writes i) (size i) (spot i) (val i) (store i size writes spot val s)
        (spot n k) ≡ store i size writes spot val s (spot n k)
    go true e = rw e (put_out (size i) (spot i) (val i) (store i size writes spot val s) (spot n k)
        (λ j lj f. let same : i ≡ n = area_of _ _ f in let z : writes n ≡ true = ap writes (sym same) ∙ e in cc))
    go false e = rw e refl

pub stored_put : (count : ℕ) (size : ℕ → ℕ) (writes : ℕ → Bool) (val : ℕ → ℕ → ℕ) (s : State) (n k : ℕ) → n < count → k
    < size n → writes n ≡ true → store count size writes spot val s (spot n k) ≡ val n k
stored_put zero size writes val s n k ln lk w = absurd (omega (arith, ln))
stored_put (suc i) size writes val s n k ln lk w
    = ⊎_elim last (λ l. later l (stored_put i size writes val s n k l lk w)) (end_or_below n i ln)
  where
    here : put_if (writes n) (size n) (spot n) (val n) (store i size writes spot val s) (spot n k) ≡ val n k
    here = rw w (put_in (size n) (spot n) (val n) (store i size writes spot val s) k lk (λ j lj e. index_of _ _ e))

    last : n ≡ i → store (suc i) size writes spot val s (spot n k) ≡ val n k
    last e = subst (λ j. put_if (writes j) (size j) (spot j) (val j) (store i size writes spot val s) (spot n k)
        ≡ val n k) e here

    later : n < i → store i size writes spot val s (spot n k) ≡ val n k
        → store (suc i) size writes spot val s (spot n k) ≡ val n k
    later l e = go (writes i) refl ∙ e
      where
        go : (b : Bool) → writes i ≡ b → put_if (writes i) (size i) (spot i) (val i) (store i size writes spot val s)
            (spot n k) ≡ store i size writes spot val s (spot n k)
        go true f = rw f (put_out (size i) (spot i) (val i) (store i size writes spot val s) (spot n k)
            (λ j lj g. let same : i ≡ n = area_of _ _ g in omega (arith, same, l)))
        go false f = rw f refl

-- ---- the leaf

module _ (leaves : events.Leaves Trap) (number_is : ℕ) (leaf : Leaf) (shapes : List Shape)
    (is : IsLeafOf leaves number_is leaf) (law : IsInside leaf shapes) (s : Arrays) (s' : State)
    (codes : Codes shapes s s') where
  abbrev sizes : ℕ → ℕ
  sizes i = size_in (slice_get shapes i)

  abbrev flags : List Bool
  flags = written_of leaf.variant

  abbrev vals : List (List ℕ)
  vals = values (length shapes) sizes spot s'

  abbrev one : ℕ → List ℕ
  one i = table (sizes i) (λ k. s' (spot i k))

  abbrev xs : List events.Array
  xs = arrays (map event_shape shapes) (listed (length shapes) one)

  xs_is : arrays (map event_shape shapes) (reverse vals) ≡ xs
  xs_is = ap (arrays (map event_shape shapes)) (lists (length shapes) one)
    where
      ends : {A : Type 0} (n : ℕ) (f : ℕ → A) → listed (suc n) f ≡ listed n f ++ (f n ∷ [])
      ends zero f = refl
      ends (suc n) f = ap (λ l. f 0 ∷ l) (ends n (λ k. f (suc k)))

      lists : {A : Type 0} (n : ℕ) (f : ℕ → A) → reverse (table n f) ≡ listed n f
      lists zero f = refl
      lists (suc n) f = reverse-append (f n ∷ []) (table n f) ∙ (ap (λ l. l ++ (f n ∷ [])) (lists n f) ∙ sym (ends n f))

  -- the arrays as the code sees them
  abbrev seen : Arrays
  seen = arrays_of xs

  seen_bytes : (n : ℕ) (sh : Shape) → slice_get shapes n ≡ Some sh → slice_get xs n
      ≡ Some (record { shape = event_shape sh; bytes = listed (bytes_in sh) (λ k. s' (spot n k)) })
  seen_bytes n sh e =
      seen_at shapes one n sh e
      ∙ ap (λ (l : List ℕ). Some (record { shape = event_shape sh; bytes = l }))
      (table_listed (sizes n) (λ k. s' (spot n k)) ∙ ap (λ m. listed m (λ k. s' (spot n k))) (ap size_in e))

  seen_is : (n : ℕ) (sh : Shape) (cs : List ℕ) → slice_get shapes n ≡ Some sh → IsIn sh.extents cs → seen n cs
      ≡ loaded sh (λ k. s' (spot n k)) cs
  seen_is n sh cs e at = ap (λ o. element_of o cs) (seen_bytes n sh e) ∙ seen_element sh (λ k. s' (spot n k)) cs at

  agree : AgreeIn shapes s seen
  agree n sh cs e at = codes.at n sh cs e at ∙ sym (seen_is n sh cs e at)

  seen_values : AreValues shapes seen
  seen_values n sh cs e at = subst (IsValue sh.elem) (sym (seen_is n sh cs e at)) (value-fits sh.elem _)

  ends_is : leaves.ends number_is xs ≡ end_by flags (map shape_in xs) (leaf_value leaf shapes seen)
  ends_is = is.ends xs ∙ ap (λ ss. end_by flags (map shape_in xs) (leaf_value leaf ss seen))
      (ap (map leaf_shape) (seen_shapes shapes one) ∙ shapes_back shapes)

  does_is : leaf_of (codes_of leaves number_is shapes) vals
      ≡ given flags xs (end_by flags (map shape_in xs) (leaf_value leaf shapes seen))
  unfolding leaf_of
  does_is = ap (λ l. given (leaves.written number_is) l (leaves.ends number_is l)) xs_is
      ∙ ap₂ (λ ws o. given ws xs o) is.written ends_is

  -- an element that was left
  left_bytes : (b : Arrays) (n : ℕ) (sh : Shape) (cs : List ℕ) → slice_get shapes n ≡ Some sh → IsIn sh.extents cs
      → get_or flags n false ≡ true → (k : ℕ) → k < width sh.elem
      → value_in (spread flags (written_bytes 0 flags (map shape_in xs) b) xs) n
      (number sh.extents cs * width sh.elem + k) ≡ get_or (cell sh.elem (b n cs)) k 0
  left_bytes b n sh cs e at w k lk =
      let zero_plus : 0 + n ≡ n = omega arith in
      ap (λ (l : List ℕ). get_or l (number sh.extents cs * width sh.elem + k) 0)
      (left_at flags xs 0 b n _ (seen_bytes n sh e) w
      ∙ (ap (λ i. over (bytes_of (event_shape sh) (b i)) (listed (bytes_in sh) (λ k. s' (spot n k)))) zero_plus
      ∙ over_all (bytes_of (event_shape sh) (b n)) (listed (bytes_in sh) (λ k. s' (spot n k)))
      (long_bytes sh (b n) ∙ sym (listed_length (bytes_in sh) (λ k. s' (spot n k))))))
      ∙ flat_at (width sh.elem) (λ c. cell sh.elem (b n c)) (coordinates sh.extents) (λ c. length-cell sh.elem (b n c))
      (number sh.extents cs) cs k (coordinate_at sh.extents cs at) lk

  -- both ends
  ended : (o o' : Result Arrays Trap) → leaf_value leaf shapes seen ≡ o' → EndAlike shapes o o'
      → SameOutcome shapes (leaf_outcome o)
      (bytes.leaf_outcome (given flags xs (end_by flags (map shape_in xs) o')) (length shapes) sizes
      (λ i. get_or flags i false) s')
  ended (Ok a) (Ok b) e h = record { at = λ n sh cs there at. go n sh cs there at (get_or flags n false) refl }
    where
      values_are : AreValues shapes b
      values_are = law.values seen b seen_values e

      go : (n : ℕ) (sh : Shape) (cs : List ℕ) → slice_get shapes n ≡ Some sh → IsIn sh.extents cs → (w : Bool)
          → get_or flags n false ≡ w
          → a n cs ≡ loaded sh (λ k. store (length shapes) sizes (λ i. get_or flags i false) spot
          (value_in (spread flags (written_bytes 0 flags (map shape_in xs) b) xs)) s' (spot n k)) cs
      go n sh cs there at true w =
          h n sh cs there at
          ∙ sym (value-cell sh.elem (b n cs) ∙ cut-value sh.elem (b n cs) (values_are n sh cs there at))
          ∙ ap (value sh.elem) (sym (listed_all (cell sh.elem (b n cs)) (width sh.elem) (length-cell sh.elem (b n cs)))
          ∙ listed_same (width sh.elem) _ _ (λ k lk. sym (
          stored_put (length shapes) sizes (λ i. get_or flags i false)
          (value_in (spread flags (written_bytes 0 flags (map shape_in xs) b) xs)) s' n
          (number sh.extents cs * width sh.elem + k) (there_below shapes n sh there)
          (subst (λ (o : Option Shape). number sh.extents cs * width sh.elem + k < size_in o) (sym there)
          (byte_below sh.extents cs (width sh.elem) k at lk)) w
          ∙ left_bytes b n sh cs there at w k lk)))
      go n sh cs there at false w =
          h n sh cs there at ∙ law.kept seen b seen_values e n sh cs w there at ∙ seen_is n sh cs there at
          ∙ ap (value sh.elem) (listed_same (width sh.elem) _ _
          (λ k lk. sym (stored_kept (length shapes) sizes (λ i. get_or flags i false)
          (value_in (spread flags (written_bytes 0 flags (map shape_in xs) b) xs)) s' n
          (number sh.extents cs * width sh.elem + k) w)))
  ended (Ok a) (Err y) e h = absurd h
  ended (Err x) (Ok b) e h = absurd h
  ended (Err x) (Err y) e h = (refl, h)

  pub leaf_same : SameOutcome shapes (leaf_outcome (leaf_value leaf shapes s))
      (bytes.meaning (leaf_work (codes_of leaves) number_is leaf shapes) s')
  leaf_same =
      subst (λ d. SameOutcome shapes (leaf_outcome (leaf_value leaf shapes s))
      (bytes.leaf_outcome d (length shapes) sizes (λ i. get_or flags i false) s')) (sym does_is)
      (ended (leaf_value leaf shapes s) (leaf_value leaf shapes seen) refl
      (law.alike s seen (λ n sh cs e at. subst (IsValue sh.elem) (sym (agree n sh cs e at)) (seen_values n sh cs e at))
      agree))

pub leaf_coded : (leaves : events.Leaves Trap) (number_is : ℕ) (leaf : Leaf) (shapes : List Shape)
    → IsLeafOf leaves number_is leaf → IsInside leaf shapes → LeafCoded (codes_of leaves) number_is leaf shapes
leaf_coded leaves number_is leaf shapes is law s s' codes = leaf_same leaves number_is leaf shapes is law s s' codes
