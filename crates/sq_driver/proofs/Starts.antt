-- The arrays before a run hold the values of the data, and zeros.
use Rattle.std.proofs.Common.{◌≡◌, ℕ, zero, suc, ◌+◌, ◌-◌, ◌*◌, ◌<◌, ◌≤◌, Bool, true, false, List, [], ◌∷◌, ◌++◌, length, take, drop, get_or, slice_get, Some, None, if◌then◌else◌, refl, sym, ◌∙◌, ap, subst, arith}
use Rattle.std.specs.Prelude.{ℤ, pos}
use Rattle.std.specs.List.{flat_map, All, AllZip}
use Rattle.std.proofs.lemmas.List.{append-nil, length-take-le, length-drop, take-replicate, drop-replicate}
use Rattle.std.proofs.lemmas.List.Elements.{All-take, All-drop}
use Rattle.std.proofs.Math.Nat.{mul-le-mul_right}
use Rattle.std.proofs.Math.Seq.{take-append-add, drop-append-add, take-nil, drop-nil}
use Rattle.sq_num.specs.declared.Elem.{Elem}
use Rattle.sq_num.specs.declared.Elem.TheVariants.{Byte, Int, Long}
use Rattle.sq_num.specs.Elements.{width, value, cell, cut, IsValue}
use Rattle.sq_num.proofs.Cutting.{length-cell, value-cell, cut-value}
use Rattle.sq_num.proofs.Machine.{cut_int, cut_long}
use Rattle.sq_rect.specs.Extents.{product}
use Rattle.sq_rect.specs.Placing.{IsIn}
use Rattle.sq_ast.specs.declared.program.Param.{Param}
use Rattle.sq_arrays.specs.Arrays.{Wanted, AreValuesOf}
use Rattle.sq_arrays.specs.Targets.{cells_of}
use Rattle.sq_leaf.specs.declared.shape.Shape.{Shape}
use Rattle.sq_leaf.specs.Source.{Arrays}
use Rattle.sq_ast.specs.Modes.{is_read}
use Rattle.sq_spec.specs.Works.{extents_at, param_shapes}
use Rattle.sq_flat.specs.Blocks.{piece, element}
use Rattle.sq_flat.specs.Memory.{size_of, zeros as zero_bytes}
use Rattle.sq_flat.specs.Held.{zero_bytes as all_zeros}
use Rattle.sq_driver.specs.Entry.{want_of, wants_of, number_at, with_first, zeros, first_values, other_values, start_of}
use Rattle.sq_driver.specs.Picking.{picked, unpicked}

-- ---- numbers that are stored

take_cells : (e : Elem) (k : ℕ) (vs : List ℤ) → take (width e * k) (flat_map (cell e) vs) ≡ flat_map (cell e)
    (take k vs)
take_cells e zero vs = let none : width e * 0 ≡ 0 = omega arith in ap (λ (n : ℕ). take n (flat_map (cell e) vs)) none
take_cells e (suc k) [] = take-nil (width e * suc k)
take_cells e (suc k) (v ∷ vs) =
    let more : width e * suc k ≡ length (cell e v) + width e * k = omega (arith, length-cell e v) in
    ap (λ (n : ℕ). take n (cell e v ++ flat_map (cell e) vs)) more
    ∙ (take-append-add (cell e v) (flat_map (cell e) vs) (width e * k) ∙ ap (λ (l : List ℕ). cell e v ++ l)
    (take_cells e k vs))

drop_cells : (e : Elem) (k : ℕ) (vs : List ℤ) → drop (width e * k) (flat_map (cell e) vs) ≡ flat_map (cell e)
    (drop k vs)
drop_cells e zero vs = let none : width e * 0 ≡ 0 = omega arith in ap (λ (n : ℕ). drop n (flat_map (cell e) vs)) none
drop_cells e (suc k) [] = drop-nil (width e * suc k)
drop_cells e (suc k) (v ∷ vs) =
    let more : width e * suc k ≡ length (cell e v) + width e * k = omega (arith, length-cell e v) in
    ap (λ (n : ℕ). drop n (cell e v ++ flat_map (cell e) vs)) more
    ∙ (drop-append-add (cell e v) (flat_map (cell e) vs) (width e * k) ∙ drop_cells e k vs)

piece_cells : (e : Elem) (c size : ℕ) (vs : List ℤ) → piece c (width e * size) (flat_map (cell e) vs) ≡ flat_map
    (cell e) (take size (drop (c * size) vs))
piece_cells e c size vs =
    let there : c * (width e * size) ≡ width e * (c * size) = omega arith in
    ap (λ (n : ℕ). take (width e * size) (drop n (flat_map (cell e) vs))) there
    ∙ (ap (take (width e * size)) (drop_cells e (c * size) vs) ∙ take_cells e size (drop (c * size) vs))

one_number : (e : Elem) (vs : List ℤ) → length vs ≡ 1 → All (IsValue e) vs
    → value e (flat_map (cell e) vs) ≡ number_at [] vs []
one_number e [] long fits = absurd (omega (arith, long))
one_number e (v ∷ []) long fits = ap (value e) (append-nil (cell e v))
    ∙ (value-cell e v ∙ cut-value e v (fits 0 v (omega arith)))
one_number e (v ∷ u ∷ vs) long fits = absurd (omega (arith, long))

-- the element at a coordinate is the number there
pub numbers_stand : (e : Elem) (ns : List ℕ) (vs : List ℤ) (cs : List ℕ) → length vs ≡ product ns → All (IsValue e) vs
    → IsIn ns cs → value e (element (width e) ns cs (flat_map (cell e) vs)) ≡ number_at ns vs cs
numbers_stand e [] vs [] long fits inside = one_number e vs long fits
numbers_stand e [] vs (c ∷ cs) long fits inside = absurd inside
numbers_stand e (n ∷ ns) vs [] long fits inside = absurd inside
numbers_stand e (n ∷ ns) vs (c ∷ cs) long fits inside =
    let size : ℕ = product ns in
    let room : suc c * size ≤ n * size = mul-le-mul_right size inside.0 in
    let enough : size ≤ length (drop (c * size) vs) = subst (λ (z : ℕ). size ≤ z) (sym (length-drop (c * size) vs))
    (omega (arith, room, long)) in
    ap (λ (l : List ℕ). value e (element (width e) ns cs l)) (piece_cells e c size vs)
    ∙ numbers_stand e ns (take size (drop (c * size) vs)) cs (length-take-le size (drop (c * size) vs) enough)
    (All-take (IsValue e) size (drop (c * size) vs) (All-drop (IsValue e) (c * size) vs fits)) inside.1

-- ---- zeros

zero_value : (e : Elem) → value e (zero_bytes (width e)) ≡ pos 0
unfolding value cut
zero_value Byte = refl
zero_value Int = cut_int 0 (omega arith)
zero_value Long = cut_long 0 (omega arith)

piece_zeros : (c n size : ℕ) → c < n → piece c size (zero_bytes (n * size)) ≡ zero_bytes size
piece_zeros c n size below =
    let room : suc c * size ≤ n * size = mul-le-mul_right size below in
    ap (take size) (drop-replicate (c * size) (n * size) 0) ∙ take-replicate size (n * size - c * size) 0
    (omega (arith, room))

pub zeros_stand : (e : Elem) (ns cs : List ℕ) → IsIn ns cs
    → value e (element (width e) ns cs (zero_bytes (width e * product ns))) ≡ pos 0
zeros_stand e [] [] inside = let one : width e * 1 ≡ width e = omega arith in ap (λ (n : ℕ). value e (zero_bytes n))
    one ∙ zero_value e
zeros_stand e [] (c ∷ cs) inside = absurd inside
zeros_stand e (n ∷ ns) [] inside = absurd inside
zeros_stand e (n ∷ ns) (c ∷ cs) inside =
    let all : width e * (n * product ns) ≡ n * (width e * product ns) = omega arith in
    ap (λ (l : List ℕ). value e (element (width e) ns cs l))
    (ap (λ (m : ℕ). piece c (width e * product ns) (zero_bytes m)) all
    ∙ piece_zeros c n (width e * product ns) inside.0)
    ∙ zeros_stand e ns cs inside.1

-- ---- the arrays of the entry

-- the arrays hold those of the data
abbrev Stands : List Shape → List (List ℕ) → Arrays → Type 0
Stands shapes list s = (k : ℕ) (shape : Shape) (cs : List ℕ) → slice_get shapes k ≡ Some shape → IsIn shape.extents cs
    → value shape.elem (element (width shape.elem) shape.extents cs (get_or list k [])) ≡ s k cs

stands_first : (shape : Shape) (shapes : List Shape) (bytes : List ℕ) (list : List (List ℕ)) (array : List ℕ → ℤ)
    (s : Arrays)
    → ((cs : List ℕ) → IsIn shape.extents cs → value shape.elem (element (width shape.elem) shape.extents cs bytes)
    ≡ array cs) → Stands shapes list s → Stands (shape ∷ shapes) (bytes ∷ list) (with_first array s)
stands_first shape shapes bytes list array s first rest zero that cs there inside =
    let same : shape ≡ that = cc in
    subst (λ (t : Shape). value t.elem (element (width t.elem) t.extents cs bytes) ≡ array cs) same
    (first cs (subst (λ (t : Shape). IsIn t.extents cs) (sym same) inside))
stands_first shape shapes bytes list array s first rest (suc k) that cs there inside = rest k that cs there inside

-- with one parameter more, which is read or isn't
module _ (shape : Shape) (shapes : List Shape) (want : Wanted) (elem_is : want.elem ≡ shape.elem)
    (extents_are : want.extents ≡ shape.extents) (wants : List Wanted) (bytes : List ℕ) (list : List (List ℕ))
    (pick leave : List (List ℕ)) (zeros_left : List (List ℕ)) (start : List (List ℤ) → Arrays)
    (later : (values : List (List ℤ)) → pick ≡ cells_of wants values → leave ≡ zeros_left
    → AllZip AreValuesOf wants values → Stands shapes list (start values)) where
  more : (b : Bool) (values : List (List ℤ)) → (if b then bytes ∷ pick else pick) ≡ cells_of
      (if b then want ∷ wants else wants) values
      → (if b then leave else bytes ∷ leave) ≡ (if b then zeros_left else zero_bytes (size_of shape) ∷ zeros_left)
      → AllZip AreValuesOf (if b then want ∷ wants else wants) values
      → Stands (shape ∷ shapes) (bytes ∷ list) (if b then with_first (number_at shape.extents (first_values values))
      (start (other_values values)) else with_first zeros (start values))
  more true [] picks left fits = absurd fits
  more true (vs ∷ values) picks left fits =
      let here : bytes ≡ flat_map (cell want.elem) vs = cc in
      let others : pick ≡ cells_of wants values = cc in
      stands_first shape shapes bytes list (number_at shape.extents vs) (start values)
      (λ cs inside.
      ap (λ (l : List ℕ). value shape.elem (element (width shape.elem) shape.extents cs l))
      (here ∙ ap (λ (e : Elem). flat_map (cell e) vs) elem_is)
      ∙ numbers_stand shape.elem shape.extents vs cs (fits.0.count ∙ ap product extents_are)
      (subst (λ (e : Elem). All (IsValue e) vs) elem_is fits.0.each) inside)
      (later values others left fits.1)
  more false values picks left fits =
      let here : bytes ≡ zero_bytes (size_of shape) = cc in
      let others : leave ≡ zeros_left = cc in
      stands_first shape shapes bytes list zeros (start values)
      (λ cs inside. ap (λ (l : List ℕ). value shape.elem (element (width shape.elem) shape.extents cs l)) here
      ∙ zeros_stand shape.elem shape.extents cs inside)
      (later values picks others fits)

no_more : (n : ℕ) → 0 ≡ suc n → ⊥
no_more n is = omega (arith, is)

pub starts : (ps : List Param) (i : ℕ) (extents : List (List ℕ)) (list : List (List ℕ)) (values : List (List ℤ))
    → length list ≡ length ps → picked ps list ≡ cells_of (wants_of is_read ps i extents) values
    → unpicked ps list ≡ unpicked ps (all_zeros (param_shapes ps i extents))
    → AllZip AreValuesOf (wants_of is_read ps i extents) values → Stands (param_shapes ps i extents) list
    (start_of ps i extents values)
starts [] i extents list values long picks left fits = λ k shape cs there inside. absurd
    (let no : None ≡ Some shape = there in cc)
starts (p ∷ ps) i extents [] values long picks left fits = absurd (no_more (length ps) long)
starts (p ∷ ps) i extents (bytes ∷ list) values long picks left fits =
    more (record { elem = p.elem; extents = extents_at (slice_get extents i) }) (param_shapes ps (i + 1) extents)
    (want_of p i extents) refl refl (wants_of is_read ps (i + 1) extents) bytes list (picked ps list)
    (unpicked ps list)
    (unpicked ps (all_zeros (param_shapes ps (i + 1) extents))) (start_of ps (i + 1) extents)
    (λ others first_is rest_is all_fit. starts ps (i + 1) extents list others (omega (arith, long)) first_is rest_is
    all_fit) (is_read p.mode) values picks left fits
