-- The texts of arrays, put one after another.
use Rattle.std.proofs.Common.{◌≡◌, ℕ, zero, suc, ◌+◌, ◌*◌, ◌<◌, true, List, [], ◌∷◌, ◌++◌, append_assoc, drop, length, map, get_or, slice_get, Option, Some, Result, refl, sym, ◌∙◌, ap, subst, arith}
use Rattle.std.proofs.lemmas.Option.{slice_get_read, get_or_from_slice_get}
use Rattle.sq_num.specs.Elements.{width}
use Rattle.sq_port.specs.Ports.{Wrote}
use Rattle.sq_port.specs.declared.sink.Failed.{Failed}
use Rattle.sq_rect.specs.Extents.{product}
use Rattle.sq_ast.specs.declared.program.Mode.{Mode}
use Rattle.sq_ast.specs.declared.program.Param.{Param}
use Rattle.sq_arrays.specs.Arrays.{Wanted}
use Rattle.sq_leaf.specs.declared.shape.Shape.{Shape}
use Rattle.sq_ast.specs.Modes.{is_written}
use Rattle.sq_spec.specs.Works.{extents_at, param_shapes}
use Rattle.sq_flat.specs.Memory.{size_of}
use Rattle.sq_flat.specs.Held.{Stored, AreWhole}
use Rattle.sq_driver.specs.Outputs.{stored_output, stored_text, stored_texts}
use Rattle.sq_driver.proofs.OutTexts.{shape_there, long_at}
use Rattle.sq_driver.proofs.Wants.{rest_of}

-- the array that is written has this name, element type and extents
pub wrote_want : (start now : Option (List ℕ)) (faults now_faults : ℕ) (w v : Wanted) (bytes : List ℕ)
    (result : Result (Unit {0}) Failed) → w ≡ v → Wrote start now faults now_faults (stored_output true w bytes)
    result → Wrote start now faults now_faults (stored_output true v bytes) result
wrote_want start now faults now_faults w v bytes result same wrote = subst
    (λ (x : Wanted). Wrote start now faults now_faults (stored_output true x bytes) result) same wrote

-- a parameter of such a mode
pub mode_text : (start now : Option (List ℕ)) (faults now_faults : ℕ) (p : Param) (mode : Mode) (dims bytes : List ℕ)
    (result : Result (Unit {0}) Failed) → p.mode ≡ mode
    → Wrote start now faults now_faults
    (stored_output (is_written mode) (record { name = p.name; elem = p.elem; extents = dims }) bytes) result
    → Wrote start now faults now_faults (stored_text p dims bytes) result
mode_text start now faults now_faults p mode dims bytes result is wrote =
    subst (λ (m : Mode). Wrote start now faults now_faults
    (stored_output (is_written m) (record { name = p.name; elem = p.elem; extents = dims }) bytes) result)
    (sym is) wrote

-- the bytes of this number are there
pub some_bytes : (list : List (List ℕ)) (i : ℕ) (bytes : List ℕ) → i < length list → bytes ≡ get_or list i []
    → slice_get list i ≡ Some bytes
some_bytes [] i bytes below is = absurd (omega (arith, below))
some_bytes (x ∷ xs) zero bytes below is = ap (λ y. Some y) (sym is)
some_bytes (x ∷ xs) (suc i) bytes below is = some_bytes xs i bytes (omega (arith, below)) is

-- the arrays of the parameters are stored
module _ (ps : List Param) (extents : List (List ℕ)) (now : Stored) (shapes : now.shapes ≡ param_shapes ps 0 extents)
    (whole : AreWhole now) where
  length_map : (xs : List (List ℕ)) (ys : List Shape) → map length xs ≡ map size_of ys → length xs ≡ length ys
  length_map [] [] same = refl
  length_map [] (y ∷ ys) same = cc
  length_map (x ∷ xs) [] same = cc
  length_map (x ∷ xs) (y ∷ ys) same = let rest : map length xs ≡ map size_of ys = cc in ap suc (length_map xs ys rest)

  length_shapes : (qs : List Param) (i : ℕ) → length (param_shapes qs i extents) ≡ length qs
  length_shapes [] i = refl
  length_shapes (q ∷ qs) i = ap suc (length_shapes qs (i + 1))

  pub as_many : length now.bytes ≡ length ps
  as_many = length_map now.bytes now.shapes whole ∙ (ap length shapes ∙ length_shapes ps 0)

  pub bytes_long : (n : ℕ) (p : Param) (bytes : List ℕ) → slice_get ps n ≡ Some p → get_or now.bytes n [] ≡ bytes
      → length bytes ≡ product (extents_at (slice_get extents n)) * width p.elem
  bytes_long n p bytes there is =
      let at : slice_get now.shapes n ≡ Some
      (record { elem = p.elem; extents = extents_at (slice_get extents (0 + n)) }) = ap
      (λ (l : List Shape). slice_get l n) shapes ∙ shape_there ps 0 extents n p there in
      let zero_plus : 0 + n ≡ n = omega arith in
      let here : slice_get now.shapes n ≡ Some
      (record { elem = p.elem; extents = extents_at (slice_get extents n) }) = at
      ∙ ap (λ (k : ℕ). Some (record { elem = p.elem; extents = extents_at (slice_get extents k) })) zero_plus in
      let long : length (get_or now.bytes n []) ≡ width p.elem * product (extents_at (slice_get extents n)) = long_at
      now.bytes now.shapes n (record { elem = p.elem; extents = extents_at (slice_get extents n) }) whole here in
      ap length (sym is) ∙ omega (arith, long)

  -- what is handed out of an array is its bytes
  pub stored_bytes : (n : ℕ) (p : Param) (dims bytes : List ℕ) → n < length ps → length extents ≡ length ps
      → p ≡ get_or ps n p → dims ≡ get_or extents n dims → slice_get now.bytes n ≡ Some bytes
      → length bytes ≡ product dims * width p.elem
  stored_bytes n p dims bytes below same p_is dims_is there =
      let here : slice_get extents n ≡ Some dims = slice_get_read extents (length ps) n dims (sym same) below dims_is in
      subst (λ (ds : List ℕ). length bytes ≡ product ds * width p.elem) (ap extents_at here)
      (bytes_long n p bytes (slice_get_read ps (length ps) n p refl below p_is)
      (get_or_from_slice_get now.bytes n bytes [] there))

-- one array more
pub texts_step : (ps : List Param) (extents list : List (List ℕ)) (n : ℕ) (p : Param) (dims bytes text all : List ℕ)
    → n < length ps → length extents ≡ length ps → p ≡ get_or ps n p → dims ≡ get_or extents n dims
    → slice_get list n ≡ Some bytes
    → text ++ stored_texts (drop n ps) n extents list ≡ all → (text ++ stored_text p dims bytes) ++ stored_texts
    (drop (n + 1) ps) (n + 1) extents list ≡ all
texts_step ps extents list n p dims bytes text all below same p_is dims_is there before =
    let next : suc n ≡ n + 1 = omega arith in
    let rest : drop n ps ≡ p ∷ drop (suc n) ps = rest_of ps n p (slice_get_read ps (length ps) n p refl below p_is) in
    let here : slice_get extents n ≡ Some dims = slice_get_read extents (length ps) n dims (sym same) below dims_is in
    let part : stored_texts (drop n ps) n extents list ≡ stored_text p dims bytes ++ stored_texts (drop (n + 1) ps)
    (n + 1) extents list =
    ap (λ (l : List Param). stored_texts l n extents list) rest
    ∙ (ap (λ (ds : List ℕ). stored_text p ds (get_or list n []) ++ stored_texts (drop (suc n) ps)
    (n + 1) extents list) (ap extents_at here)
    ∙ (ap (λ (b : List ℕ). stored_text p dims b ++ stored_texts (drop (suc n) ps) (n + 1) extents list)
    (get_or_from_slice_get list n bytes [] there)
    ∙ ap (λ (k : ℕ). stored_text p dims bytes ++ stored_texts (drop k ps) (n + 1) extents list) next)) in
    append_assoc text (stored_text p dims bytes) (stored_texts (drop (n + 1) ps) (n + 1) extents list)
    ∙ (ap (λ (l : List ℕ). text ++ l) (sym part) ∙ before)
