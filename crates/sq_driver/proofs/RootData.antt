-- What stands in the root from which a program's plan starts: the data, and zeros.
use Rattle.std.proofs.Common.{◌≡◌, ℕ, zero, suc, ◌+◌, ◌*◌, ◌<◌, Bool, true, false, not, List, [], ◌∷◌, length, map, replicate, get_or, Some, Ok, if◌then◌else◌, refl, sym, ◌∙◌, ap, ap₂, subst, arith, ⊎_elim, inl, inr}
use Rattle.std.specs.List.{All}
use Rattle.std.proofs.lemmas.List.{length-map, length-replicate, length-take-le, length-drop, get_or-take, get_or-drop, ext_get_or}
use Rattle.std.proofs.lemmas.List.Elements.{All-nil, All-cons, All-head, All-tail}
use Rattle.sq_port.specs.Ports.{Content}
use Rattle.sq_num.specs.Elements.{width}
use Rattle.sq_rect.specs.Extents.{product}
use Rattle.sq_ast.specs.declared.program.Param.{Param}
use Rattle.sq_ast.specs.Modes.{is_read}
use Rattle.sq_ir.specs.declared.plan.Plan.{Plan}
use Rattle.sq_leaf.specs.declared.shape.Shape.{Shape}
use Rattle.sq_spec.specs.Works.{param_shapes}
use Rattle.sq_spec.specs.declared.resolved.Resolved.{Resolved}
use Rattle.sq_flat.specs.Memory as memory
use Rattle.sq_flat.specs.Held.{Stored, zero_bytes}
use Rattle.sq_root.specs.declared.place.Place.{Place}
use Rattle.sq_root.specs.Flagged.{flagged}
use Rattle.sq_root.specs.Places.{part, parts, IsWithin, IsClear, IsOutside, Fits}
use Rattle.sq_compiled_laws.specs.Meant.Places.{places_in}
use Rattle.sq_driver.specs.Entry.{params_of}
use Rattle.sq_driver.specs.Givens.{Given, Extents, read_wants}
use Rattle.sq_driver.specs.Picking.{picked, unpicked, IsFilled, AreGiven}
use Rattle.sq_driver.specs.Roots.{places_for, read_flags}
use Rattle.sq_driver.specs.RunLaws.{RootLaws}
use Rattle.sq_driver.proofs.Datas.{reads_given}
use Rattle.sq_driver.proofs.EntryArrays.{many_shapes}

-- ---- arrays by the flags of their parameters

picked_flagged : (ps : List Param) (list : List (List ℕ)) → picked ps list ≡ flagged (read_flags ps) list
picked_flagged [] list = refl
picked_flagged (p ∷ ps) [] = refl
picked_flagged (p ∷ ps) (bytes ∷ rest) =
    ap (λ (l : List (List ℕ)). if is_read p.mode then bytes ∷ l else l) (picked_flagged ps rest)

turned : (b : Bool) (bytes : List ℕ) (list : List (List ℕ))
    → (if b then list else bytes ∷ list) ≡ (if not b then bytes ∷ list else list)
turned true bytes list = refl
turned false bytes list = refl

unpicked_flagged : (ps : List Param) (list : List (List ℕ)) → length list ≡ length ps → unpicked ps list ≡ flagged
    (map not (read_flags ps)) list
unpicked_flagged [] [] long = refl
unpicked_flagged [] (bytes ∷ rest) long = absurd (omega (arith, long))
unpicked_flagged (p ∷ ps) [] long = refl
unpicked_flagged (p ∷ ps) (bytes ∷ rest) long =
    ap (λ (l : List (List ℕ)). if is_read p.mode then l else bytes ∷ l) (unpicked_flagged ps rest (omega (arith, long)))
    ∙ turned (is_read p.mode) bytes (flagged (map not (read_flags ps)) rest)

-- ---- zeros

zero_byte : (n i : ℕ) → ◌≡◌ {A = ℕ} (get_or (replicate n 0) i 0) 0
zero_byte zero i = refl
zero_byte (suc n) zero = refl
zero_byte (suc n) (suc i) = zero_byte n i

-- a byte of a place is outside of places that are clear of it
outside : (q : Place) (reads : List Place) (i : ℕ) → i < q.size → All (IsClear q) reads
    → All (IsOutside (q.at + i)) reads
outside q [] i below clear = All-nil (IsOutside (q.at + i))
outside q (r ∷ reads) i below clear = All-cons (IsOutside (q.at + i)) r reads
    (⊎_elim (λ before. inl (omega (arith, before, below))) (λ behind. inr (omega (arith, behind)))
    (All-head (IsClear q) r reads clear))
    (outside q reads i below (All-tail (IsClear q) r reads clear))

module _ (root : List ℕ) (reads : List Place)
    (zero_outside : (i : ℕ) → All (IsOutside i) reads → get_or root i 0 ≡ 0) where
  zero_part : (q : Place) → IsWithin (length root) q → All (IsClear q) reads → part q root ≡ replicate q.size 0
  zero_part q within clear = ext_get_or 0 (part q root) (replicate q.size 0)
      (long ∙ sym (length-replicate q.size 0))
      (λ i less.
      let below : i < q.size = omega (arith, less, long) in
      get_or-take q.size _ i 0 below
      ∙ (get_or-drop q.at root i 0 ∙ (zero_outside (q.at + i) (outside q reads i below clear) ∙ sym (zero_byte q.size i))))
    where
      long : length (part q root) ≡ q.size
      long = length-take-le q.size _ (omega (arith, within, length-drop q.at root))

  zero_parts : (qs : List Place) → All (IsWithin (length root)) qs → All (λ q. All (IsClear q) reads) qs
      → parts qs root ≡ map (λ (q : Place). replicate q.size 0) qs
  zero_parts [] within clear = refl
  zero_parts (q ∷ qs) within clear = ap₂ (λ (x : List ℕ) (xs : List (List ℕ)). x ∷ xs)
      (zero_part q (All-head (IsWithin (length root)) q qs within)
      (All-head (λ (q : Place). All (IsClear q) reads) q qs clear))
      (zero_parts qs (All-tail (IsWithin (length root)) q qs within)
      (All-tail (λ (q : Place). All (IsClear q) reads) q qs clear))

flagged_map : {A B : Type 0} (f : A → B) (flags : List Bool) (xs : List A)
    → flagged flags (map f xs) ≡ map f (flagged flags xs)
flagged_map f [] xs = refl
flagged_map f (flag ∷ flags) [] = refl
flagged_map {B = B} f (true ∷ flags) (x ∷ xs) = ap (λ (ys : List B). f x ∷ ys) (flagged_map f flags xs)
flagged_map f (false ∷ flags) (x ∷ xs) = flagged_map f flags xs

zeros_in : (plan : Plan) (bs : List ℕ) (shapes : List Shape) → length (places_in plan bs shapes) ≡ length shapes
    → zero_bytes shapes ≡ map (λ (q : Place). replicate q.size 0) (places_in plan bs shapes)
zeros_in plan [] [] many = refl
zeros_in plan [] (s ∷ shapes) many = absurd (omega (arith, many))
zeros_in plan (b ∷ bs) [] many = refl
zeros_in plan (b ∷ bs) (s ∷ shapes) many =
    let size : memory.size_of s ≡ product s.extents * width s.elem = omega arith in
    ap₂ (λ (x : List ℕ) (xs : List (List ℕ)). x ∷ xs) (ap (λ (n : ℕ). replicate n 0) size)
    (zeros_in plan bs shapes (omega (arith, many)))

length_zeros : (shapes : List Shape) → length (zero_bytes shapes) ≡ length shapes
length_zeros [] = refl
length_zeros (s ∷ shapes) = ap suc (length_zeros shapes)

some_same : {A : Type 0} (x y : A) → Some x ≡ Some y → x ≡ y
some_same x y is = cc

-- ---- the data is read

module _ (laws : RootLaws) (r : Resolved) (x : Extents r) (plan : Plan) (c : Content) (d root : List ℕ)
    (many : length (places_for plan (params_of r.typed.now r.mapping.now) x.extents) ≡ length
    (params_of r.typed.now r.mapping.now))
    (fit : Fits (places_for plan (params_of r.typed.now r.mapping.now) x.extents) (length root))
    (zero_outside : (i : ℕ) → All (IsOutside i) (flagged (read_flags (params_of r.typed.now r.mapping.now))
    (places_for plan (params_of r.typed.now r.mapping.now) x.extents)) → get_or root i 0 ≡ 0)
    (gives : Given (read_wants r x) (c d) (parts (flagged (read_flags (params_of r.typed.now r.mapping.now))
    (places_for plan (params_of r.typed.now r.mapping.now) x.extents)) root)) where
  abbrev ps : List Param
  ps = params_of r.typed.now r.mapping.now

  abbrev shapes : List Shape
  shapes = param_shapes ps 0 x.extents

  abbrev places : List Place
  places = places_for plan ps x.extents

  abbrev reads : List Place
  reads = flagged (read_flags ps) places

  abbrev others : List Place
  others = flagged (map not (read_flags ps)) places

  abbrev before : Stored
  before = record { shapes = shapes; bytes = zero_bytes shapes }

  abbrev arrays : Stored
  arrays = record { shapes = shapes; bytes = parts places root }

  long : length arrays.bytes ≡ length ps
  long = length-map places (λ (p : Place). part p root) ∙ many

  long_zeros : length before.bytes ≡ length ps
  long_zeros = length_zeros shapes ∙ many_shapes ps 0 x.extents

  others_are : unpicked ps arrays.bytes ≡ unpicked ps before.bytes
  others_are =
      unpicked_flagged ps arrays.bytes long
      ∙ (laws.picked (map not (read_flags ps)) places root
      ∙ (zero_parts root reads zero_outside others (laws.fit (map not (read_flags ps)) places (length root) fit).within
      (laws.others (read_flags ps) places (length root) fit)
      ∙ (sym (flagged_map (λ (q : Place). replicate q.size 0) (map not (read_flags ps)) places)
      ∙ (ap (λ (l : List (List ℕ)). flagged (map not (read_flags ps)) l)
      (sym (zeros_in plan plan.draft.entry shapes (many ∙ sym (many_shapes ps 0 x.extents))))
      ∙ sym (unpicked_flagged ps before.bytes long_zeros)))))

  picked_is : picked ps arrays.bytes ≡ parts reads root
  picked_is = picked_flagged ps arrays.bytes ∙ laws.picked (read_flags ps) places root

  is_filled : IsFilled ps (read_wants r x) (Some c) d before arrays
  is_filled = record {
    shapes = refl;
    count = long ∙ sym long_zeros;
    others = others_are;
    read = λ b is. subst (λ (z : Content). Given (read_wants r x) (z d) (picked ps arrays.bytes)) (some_same c b is)
        (subst (λ (list : List (List ℕ)). Given (read_wants r x) (c d) list) (sym picked_is) gives);
  }

  -- the arrays in the root are those of the data
  pub given_root : AreGiven r (c d) (record {
    shapes = param_shapes (params_of r.typed.now r.mapping.now) 0 x.extents;
    bytes = parts (places_for plan (params_of r.typed.now r.mapping.now) x.extents) root;
  })
  given_root = reads_given r x (Some c) d (read_wants r x) refl before refl refl laws.values (Ok arrays) is_filled c refl
