-- A leaf that runs as it means over every placement depends on the elements inside its arrays alone.
use Rattle.std.proofs.Common.{◌≡◌, ℕ, zero, suc, ◌+◌, ◌*◌, ◌<◌, ◌≤◌, Bool, true, false, ◌&&◌, List, [], ◌∷◌, ◌++◌}
use Rattle.std.proofs.Common.{length, map, get_or, take, drop, refl, sym, ap, ap₂, ◌∙◌, subst, arith}
use Rattle.std.specs.Prelude.{Some, slice_get, Result, Ok, nat_lt, nat_le, ℤ}
use Rattle.std.specs.List.{flat_map}
use Rattle.std.proofs.lemmas.Bool.Decides.{nat_tests}
use Rattle.std.proofs.lemmas.List.{length-append, append_assoc}
use Rattle.std.proofs.lemmas.Slice.Eq.{bytes_eq-Decides}
use Rattle.sq_num.specs.Elements.{width, value, cell, IsValue}
use Rattle.sq_num.proofs.Cutting.{value-cell, cut-value, length-cell, value-fits}
use Rattle.sq_rect.specs.declared.view.View.{View}
use Rattle.sq_rect.specs.Extents.{product, row_major}
use Rattle.sq_rect.specs.Placing.{IsIn, place_of}
use Rattle.sq_rect.proofs.Placing.{inside}
use Rattle.std.proofs.Math.Nat.{mul-le-mul_left}
use Rattle.sq_leaf.specs.declared.shape.Shape.{Shape}
use Rattle.sq_leaf.specs.declared.trap.Trap.{Trap}
use Rattle.sq_leaf.specs.Source.{Arrays}
use Rattle.sq_leaf.specs.Leaf.{Leaf, written_of, leaf_value}
use Rattle.sq_leaf.specs.Running.{Ran}
use Rattle.sq_leaf.specs.Spots.{load}
use Rattle.sq_leaf.specs.Views.{spot_of, CanRun, Shows, Keeps, Agrees, Ends, Traps, shape_of}
use Rattle.sq_leaf.specs.Line.{is_whole, end_of, are_in_line}
use Rattle.sq_ir.specs.Events.{coordinates}
use Rattle.sq_plan_laws.specs.Coordinates.{number}
use Rattle.sq_plan_laws.specs.Codes.{listed}
use Rattle.sq_plan_laws.specs.LeafLaws.{AgreeIn, AreValues, EndAlike, IsInside}
use Rattle.sq_plan_laws.specs.LeafRuns.{RunsAsMeant, IsCompiled, LinesCanRun, AreSmall, size_of, total, view_at}
use Rattle.sq_plan_laws.specs.LeafRuns.{lined}
use Rattle.sq_plan_laws.proofs.PlacedLists.{listed_same, listed_all, same_some}
use Rattle.sq_plan_laws.proofs.Ordered.{coordinates_length, coordinate_at, flat_length, flat_at, cell_front}
use Rattle.sq_plan_laws.proofs.Ordered.{cell_behind}

-- ---- arrays in line

start_at : ℕ → List Shape → ℕ → ℕ
start_at at [] n = at
start_at at (s ∷ shapes) zero = at
start_at at (s ∷ shapes) (suc n) = start_at (at + size_of s) shapes n

lined_at : (at : ℕ) (shapes : List Shape) (n : ℕ) (sh : Shape) → slice_get shapes n ≡ Some sh
    → slice_get (lined at shapes) n ≡ Some (view_at (start_at at shapes n) sh)
unfolding start_at
lined_at at [] n sh e = cc
lined_at at (s ∷ shapes) zero sh e = ap (λ (z : Shape). Some (view_at at z)) (same_some e)
lined_at at (s ∷ shapes) (suc n) sh e = lined_at (at + size_of s) shapes n sh e

lined_shapes : (at : ℕ) (shapes : List Shape) → map shape_of (lined at shapes) ≡ shapes
lined_shapes at [] = refl
lined_shapes at (s ∷ shapes) = ap (λ (l : List Shape). s ∷ l) (lined_shapes (at + size_of s) shapes)

shape_there : (at : ℕ) (shapes : List Shape) (n : ℕ) (v : View) → slice_get (lined at shapes) n ≡ Some v → (sh : Shape)
    × (slice_get shapes n ≡ Some sh) × (v ≡ view_at (start_at at shapes n) sh)
unfolding start_at
shape_there at [] n v e = cc
shape_there at (s ∷ shapes) zero v e = (s, refl, sym (same_some e))
shape_there at (s ∷ shapes) (suc n) v e = shape_there (at + size_of s) shapes n v e

start_below : (at : ℕ) (shapes : List Shape) (n : ℕ) (sh : Shape) → slice_get shapes n ≡ Some sh → start_at at shapes n
    + size_of sh ≤ at + total shapes
unfolding start_at
start_below at [] n sh e = cc
start_below at (s ∷ shapes) zero sh e = let z : size_of s ≡ size_of sh = ap size_of (same_some e) in omega (arith, z)
start_below at (s ∷ shapes) (suc n) sh e = let z = start_below (at + size_of s) shapes n sh e in omega (arith, z)

both : (x y : Bool) → x ≡ true → y ≡ true → (x && y) ≡ true
both true y e f = f
both false y e f = cc

small_rest : (s : Shape) (shapes : List Shape) → AreSmall (s ∷ shapes) → AreSmall shapes
small_rest s shapes h = record
    { some = λ n sh e. h.some (suc n) sh e; few = λ n sh e. h.few (suc n) sh e; dims = λ n sh e. h.dims (suc n) sh e }

in_line : (at size : ℕ) (shapes : List Shape) → AreSmall shapes → size ≡ at + total shapes
    → are_in_line at size (lined at shapes) ≡ true
in_line at size [] small e = let z : at ≤ size = omega (arith, e) in grind (arith, nat_tests, z)
in_line at size (s ∷ shapes) small e =
    let some : 0 < product s.extents = small.some 0 s refl in
    let few : product s.extents < 4294967296 = small.few 0 s refl in
    let dims : length s.extents ≤ 3 = small.dims 0 s refl in
    let t1 : nat_lt 0 (product s.extents) ≡ true = grind (arith, nat_tests, some) in
    let t2 : nat_lt (product s.extents) 4294967296 ≡ true = grind (arith, nat_tests, few) in
    let t3 : nat_le (length s.extents) 3 ≡ true = grind (arith, nat_tests, dims) in
    let t5 : nat_le at at ≡ true = grind (arith, nat_tests) in
    both (is_whole (view_at at s) && nat_le at at)
    (are_in_line (end_of (view_at at s)) size (lined (at + size_of s) shapes))
    (both (is_whole (view_at at s)) (nat_le at at)
    (both (nat_lt 0 (product s.extents) && nat_lt (product s.extents) 4294967296) _
    (both (nat_lt 0 (product s.extents)) (nat_lt (product s.extents) 4294967296) t1 t2)
    (both (nat_le (length s.extents) 3) _ t3 ((bytes_eq-Decides (row_major s.extents) (row_major s.extents)).1 refl)))
    t5)
    (in_line (at + size_of s) size shapes (small_rest s shapes small) (omega (arith, e)))

-- ---- the memory that holds values

array_bytes : Shape → (List ℕ → ℤ) → List ℕ
array_bytes s f = flat_map (λ c. cell s.elem (f c)) (coordinates s.extents)

array_length : (s : Shape) (f : List ℕ → ℤ) → length (array_bytes s f) ≡ size_of s
unfolding array_bytes
array_length s f = flat_length (width s.elem) (λ c. cell s.elem (f c)) (coordinates s.extents)
    (λ c. length-cell s.elem (f c)) ∙ (ap (λ m. m * width s.elem) (coordinates_length s.extents) ∙ omega arith)

laid : List Shape → Arrays → ℕ → List ℕ
laid [] a i = []
laid (s ∷ shapes) a i = array_bytes s (a i) ++ laid shapes a (suc i)

laid_length : (shapes : List Shape) (a : Arrays) (i : ℕ) → length (laid shapes a i) ≡ total shapes
unfolding laid
laid_length [] a i = refl
laid_length (s ∷ shapes) a i = length-append (array_bytes s (a i)) (laid shapes a (suc i))
    ∙ ap₂ (λ x y. x + y) (array_length s (a i)) (laid_length shapes a (suc i))

-- byte j of the n-th array
byte_laid : (before : List ℕ) (shapes : List Shape) (a : Arrays) (i at : ℕ) → length before ≡ at → (n : ℕ) (sh : Shape)
    → slice_get shapes n ≡ Some sh → (j : ℕ) → j < size_of sh
    → get_or (before ++ laid shapes a i) (start_at at shapes n + j) 0 ≡ get_or (array_bytes sh (a (i + n))) j 0
unfolding laid start_at
byte_laid before [] a i at long n sh e j lj = cc
byte_laid before (s ∷ shapes) a i at long zero sh e j lj =
    let here : i ≡ i + 0 = omega arith in
    let same : s ≡ sh = same_some e in
    let small : j < length (array_bytes s (a i))
    = omega (arith, array_length s (a i), subst (λ (z : Shape). j < size_of z) (sym same) lj) in
    ap (λ k. get_or (before ++ (array_bytes s (a i) ++ laid shapes a (suc i))) (k + j) 0) (sym long)
    ∙ (cell_behind before (array_bytes s (a i) ++ laid shapes a (suc i)) j
    ∙ (cell_front (array_bytes s (a i)) (laid shapes a (suc i)) j small
    ∙ ap₂ (λ (z : Shape) k. get_or (array_bytes z (a k)) j 0) same here))
byte_laid before (s ∷ shapes) a i at long (suc n) sh e j lj =
    let next : suc i + n ≡ i + suc n = omega arith in
    let more : length (before ++ array_bytes s (a i)) ≡ at + size_of s = length-append before (array_bytes s (a i))
    ∙ ap₂ (λ x y. x + y) long (array_length s (a i)) in
    ap (λ l. get_or l (start_at (at + size_of s) shapes n + j) 0)
    (sym (append_assoc before (array_bytes s (a i)) (laid shapes a (suc i))))
    ∙ (byte_laid (before ++ array_bytes s (a i)) shapes a (suc i) (at + size_of s) more n sh e j lj
    ∙ ap (λ k. get_or (array_bytes sh (a k)) j 0) next)

-- ---- elements of the memory

take_get : (l : List ℕ) (p w : ℕ) → p + w ≤ length l → take w (drop p l) ≡ listed w (λ k. get_or l (p + k) 0)
take_get l p zero le = refl
take_get [] p (suc w) le = absurd (omega (arith, le))
take_get (x ∷ l) zero (suc w) le
    = ap (λ (r : List ℕ). x ∷ r) (take_get l 0 w (omega (arith, le)) ∙ listed_same w _ _
    (λ k lk. let z : 0 + suc k ≡ suc (0 + k) = omega arith in ap (λ i. get_or (x ∷ l) i 0) (sym z)))
take_get (x ∷ l) (suc p) (suc w) le = take_get l p (suc w) (omega (arith, le))
    ∙ listed_same (suc w) _ _ (λ k lk. let z : suc p + k ≡ suc (p + k) = omega arith in ap (λ i. get_or (x ∷ l) i 0)
    (sym z))

-- an element that ends inside
element_ends : (shapes : List Shape) (n : ℕ) (sh : Shape) (cs : List ℕ) → slice_get shapes n ≡ Some sh
    → IsIn sh.extents cs → place_of (view_at (start_at 0 shapes n) sh) cs + width sh.elem ≤ total shapes
element_ends shapes n sh cs e at =
    let low : suc (number sh.extents cs) ≤ product sh.extents = inside sh.extents cs at in
    let room : width sh.elem * suc (number sh.extents cs) ≤ width sh.elem * product sh.extents
    = mul-le-mul_left (width sh.elem) low in
    let ends = start_below 0 shapes n sh e in
    omega (arith, room, ends)

loaded_at : (shapes : List Shape) (l : List ℕ) → length l ≡ total shapes → (n : ℕ) (sh : Shape) (cs : List ℕ)
    → slice_get shapes n ≡ Some sh → IsIn sh.extents cs
    → load (spot_of (view_at (start_at 0 shapes n) sh) cs) l
    ≡ value sh.elem (listed (width sh.elem) (λ k. get_or l (place_of (view_at (start_at 0 shapes n) sh) cs + k) 0))
loaded_at shapes l long n sh cs e at =
    let ends = element_ends shapes n sh cs e at in
    ap (value sh.elem) (take_get l (place_of (view_at (start_at 0 shapes n) sh) cs) (width sh.elem)
    (omega (arith, long, ends)))

-- the memory shows the values
laid_shows : (shapes : List Shape) (a b : Arrays) → AreValues shapes a → AgreeIn shapes a b
    → Shows (lined 0 shapes) (laid shapes a 0) b
unfolding array_bytes
laid_shows shapes a b values agree = record { shown = λ n v cs there at. go n v cs at (shape_there 0 shapes n v there) }
  where
    go : (n : ℕ) (v : View) (cs : List ℕ) → IsIn v.extents cs → (sh : Shape) × (slice_get shapes n ≡ Some sh)
        × (v ≡ view_at (start_at 0 shapes n) sh) → load (spot_of v cs) (laid shapes a 0) ≡ b n cs
    go n v cs at h =
        let sh = h.0 in
        let e = h.1 in
        let at' : IsIn sh.extents cs = subst (λ (z : View). IsIn z.extents cs) h.2 at in
        let zero_plus : 0 + n ≡ n = omega arith in
        ap (λ (z : View). load (spot_of z cs) (laid shapes a 0)) h.2
        ∙ loaded_at shapes (laid shapes a 0) (laid_length shapes a 0) n sh cs e at'
        ∙ ap (value sh.elem) (listed_same (width sh.elem) _ (λ k. get_or (cell sh.elem (a n cs)) k 0)
        (λ k lk. byte n sh cs e at' zero_plus k lk)
        ∙ listed_all (cell sh.elem (a n cs)) (width sh.elem) (length-cell sh.elem (a n cs)))
        ∙ value-cell sh.elem (a n cs) ∙ cut-value sh.elem (a n cs) (values n sh cs e at') ∙ agree n sh cs e at'
      where
        byte : (n : ℕ) (sh : Shape) (cs : List ℕ) → slice_get shapes n ≡ Some sh → IsIn sh.extents cs → 0 + n ≡ n
            → (k : ℕ) → k < width sh.elem
            → get_or (laid shapes a 0) (place_of (view_at (start_at 0 shapes n) sh) cs + k) 0
            ≡ get_or (cell sh.elem (a n cs)) k 0
        byte n sh cs e at zero_plus k lk =
            let low : suc (number sh.extents cs) ≤ product sh.extents = inside sh.extents cs at in
            let room : width sh.elem * suc (number sh.extents cs) ≤ width sh.elem * product sh.extents
            = mul-le-mul_left (width sh.elem) low in
            let j : ℕ = number sh.extents cs * width sh.elem + k in
            let there : place_of (view_at (start_at 0 shapes n) sh) cs + k ≡ start_at 0 shapes n
            + (number sh.extents cs * width sh.elem + k) = omega arith in
            ap (λ i. get_or (laid shapes a 0) i 0) there
            ∙ byte_laid [] shapes a 0 0 refl n sh e (number sh.extents cs * width sh.elem + k) (omega (arith, room, lk))
            ∙ flat_at (width sh.elem) (λ c. cell sh.elem (a (0 + n) c)) (coordinates sh.extents)
            (λ c. length-cell sh.elem (a (0 + n) c)) (number sh.extents cs) cs k (coordinate_at sh.extents cs at) lk
            ∙ ap (λ i. get_or (cell sh.elem (a i cs)) k 0) zero_plus

-- ---- the leaf

agree_both : (shapes : List Shape) (w : List Bool) (old : List ℕ) (r r' : Ran) (q q' : Result Arrays Trap) → r ≡ r'
    → Agrees (lined 0 shapes) w old r q → Agrees (lined 0 shapes) w old r' q' → EndAlike shapes q q'
agree_both shapes w old _ _ _ _ e (Ends c a k s) (Ends d b l t) =
    let same : c ≡ d = cc in
    λ n sh cs there at. sym (s.shown n _ cs (lined_at 0 shapes n sh there) at)
    ∙ (ap (load (spot_of (view_at (start_at 0 shapes n) sh) cs)) same
    ∙ t.shown n _ cs (lined_at 0 shapes n sh there) at)
agree_both shapes w old _ _ _ _ e (Ends c a k s) (Traps d y l) = cc
agree_both shapes w old _ _ _ _ e (Traps c x k) (Ends d b l t) = cc
agree_both shapes w old _ _ _ _ e (Traps c x k) (Traps d y l) = cc

-- what an end leaves
pub record Left (shapes : List Shape) (w : List Bool) (old : List ℕ) (b : Arrays) : Type 0 where
  pub now : List ℕ
  pub keeps : Keeps (lined 0 shapes) w old now
  pub shows : Shows (lined 0 shapes) now b

left_by : (shapes : List Shape) (w : List Bool) (old : List ℕ) (r : Ran) (q : Result Arrays Trap) (b : Arrays) → q
    ≡ Ok b → Agrees (lined 0 shapes) w old r q → Left shapes w old b
left_by shapes w old _ _ b e (Ends c a k s) = let same : a ≡ b
    = cc in record { now = c; keeps = k; shows = subst (Shows (lined 0 shapes) c) same s }
left_by shapes w old _ _ b e (Traps c x k) = cc

module _ (leaf : Leaf) (compiled : IsCompiled leaf) (lines : LinesCanRun) (shapes : List Shape)
    (small : AreSmall shapes) where
  abbrev flags : List Bool
  flags = written_of leaf.variant

  may : (a : Arrays) → CanRun (length (laid shapes a 0)) (lined 0 shapes) flags
  may a = lines (length (laid shapes a 0)) (lined 0 shapes) flags
      (in_line 0 (length (laid shapes a 0)) shapes small (laid_length shapes a 0 ∙ omega arith))

  run_of : (a : Arrays) → RunsAsMeant leaf (lined 0 shapes) (laid shapes a 0)
  run_of a = compiled.runs (lined 0 shapes) (laid shapes a 0) (may a)

  meant : (a b : Arrays) → AreValues shapes a → AgreeIn shapes a b
      → Agrees (lined 0 shapes) flags (laid shapes a 0) (run_of a).ran (leaf_value leaf shapes b)
  meant a b values agree = subst
      (λ ss. Agrees (lined 0 shapes) flags (laid shapes a 0) (run_of a).ran (leaf_value leaf ss b))
      (lined_shapes 0 shapes) ((run_of a).agrees b (laid_shows shapes a b values agree))

  itself : (a : Arrays) → AgreeIn shapes a a
  itself a n sh cs e at = refl

  pub is_inside : IsInside leaf shapes
  is_inside = record {
    alike = λ a b values agree. agree_both shapes flags (laid shapes a 0) _ _ _ _ refl (meant a a values (itself a))
        (meant a b values agree);
    values = λ a b values e n sh cs there at.
        let l = left_by shapes flags (laid shapes a 0) _ _ b e (meant a a values (itself a)) in
        subst (IsValue sh.elem) (l.shows.shown n _ cs (lined_at 0 shapes n sh there) at) (value-fits sh.elem _);
    kept = λ a b values e n sh cs w there at.
        let l = left_by shapes flags (laid shapes a 0) _ _ b e (meant a a values (itself a)) in
        kept a b values l n sh cs w there at;
  }
    where
      kept : (a b : Arrays) → AreValues shapes a → Left shapes flags (laid shapes a 0) b
          → (n : ℕ) (sh : Shape) (cs : List ℕ) → get_or flags n false ≡ false → slice_get shapes n ≡ Some sh
          → IsIn sh.extents cs → b n cs ≡ a n cs
      kept a b values l n sh cs w there at =
          let v : View = view_at (start_at 0 shapes n) sh in
          let is : slice_get (lined 0 shapes) n ≡ Some (view_at (start_at 0 shapes n) sh)
          = lined_at 0 shapes n sh there in
          sym (l.shows.shown n _ cs is at)
          ∙ loaded_at shapes l.now (l.keeps.size ∙ laid_length shapes a 0) n sh cs there at
          ∙ ap (value sh.elem) (listed_same (width sh.elem) _ _
          (λ k lk. l.keeps.outside (place_of (view_at (start_at 0 shapes n) sh) cs + k) (record {
            none = λ m u ds wm um inn has.
                let one = (may a).apart.owned m n u (view_at (start_at 0 shapes n) sh) ds cs
                (place_of (view_at (start_at 0 shapes n) sh) cs + k) wm um is inn at has
                (record { from = omega arith; below = omega (arith, lk) }) in
                let z : get_or flags n false ≡ true = ap (λ i. get_or flags i false) (sym one.0) ∙ wm in cc;
          })))
          ∙ sym (loaded_at shapes (laid shapes a 0) (laid_length shapes a 0) n sh cs there at)
          ∙ (laid_shows shapes a a values (itself a)).shown n _ cs is at
