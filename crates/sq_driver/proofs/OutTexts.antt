-- The texts of arrays that hold what is meant.
use Rattle.std.proofs.Common.{◌≡◌, ℕ, zero, suc, ◌+◌, ◌*◌, ◌<◌, ◌≤◌, Bool, true, false, List, [], ◌∷◌, ◌++◌, length, take, drop, map, get_or, slice_get, Some, refl, sym, ◌∙◌, ap, ap₂, subst, arith}
use Rattle.std.specs.Prelude.{ℤ}
use Rattle.std.proofs.lemmas.List.{drop-take, drop-drop, take-take, length-take-le, length-drop}
use Rattle.std.proofs.Math.Nat.{mul-le-mul_right}
use Rattle.std.proofs.Math.Seq.{take-length}
use Rattle.sq_num.specs.declared.Elem.{Elem}
use Rattle.sq_num.specs.Elements.{width, value, values_in}
use Rattle.sq_rect.specs.Extents.{product}
use Rattle.sq_rect.specs.Placing.{IsIn}
use Rattle.sq_ast.specs.declared.program.Param.{Param}
use Rattle.sq_arrays.specs.Arrays.{Wanted}
use Rattle.sq_arrays.specs.Written.{array_text}
use Rattle.sq_leaf.specs.declared.shape.Shape.{Shape}
use Rattle.sq_leaf.specs.Source.{Arrays}
use Rattle.sq_ast.specs.Modes.{is_written}
use Rattle.sq_spec.specs.Works.{extents_at, param_shapes}
use Rattle.sq_flat.specs.Blocks.{piece, element}
use Rattle.sq_flat.specs.Memory.{size_of}
use Rattle.sq_flat.specs.Held.{Stored, Holds, AreWhole}
use Rattle.sq_driver.specs.Entry.{in_order, parts_from, output_text, outputs_from}
use Rattle.sq_driver.specs.Outputs.{stored_output, stored_texts}

values_split : (e : Elem) (a b : ℕ) (xs : List ℕ) → values_in e (a + b) xs ≡ values_in e a (take (width e * a) xs)
    ++ values_in e b (drop (width e * a) xs)
values_split e zero b xs =
    let none : 0 + b ≡ b = omega arith in
    let start : 0 ≡ width e * 0 = omega arith in
    ap (λ (n : ℕ). values_in e n xs) none ∙ ap (λ (n : ℕ). values_in e b (drop n xs)) start
values_split e (suc a) b xs =
    let more : width e * suc a ≡ width e + width e * a = omega arith in
    let first : take (width e) (take (width e * suc a) xs) ≡ take (width e) xs = take-take (width e) (width e * suc a)
    xs (omega (arith, more)) in
    let part : drop (width e) (take (width e * suc a) xs) ≡ take (width e * a) (drop (width e) xs) = ap
    (λ (n : ℕ). drop (width e) (take n xs)) more ∙ drop-take (width e) (width e * a) xs in
    let rest : drop (width e * a) (drop (width e) xs) ≡ drop (width e * suc a) xs = drop-drop (width e * a)
    (width e) xs ∙ ap (λ (n : ℕ). drop n xs) (sym more) in
    let one_more : suc a + b ≡ suc (a + b) = omega arith in
    ap (λ (n : ℕ). values_in e n xs) one_more
    ∙ (ap (λ (l : List ℤ). value e (take (width e) xs) ∷ l) (
    values_split e a b (drop (width e) xs)
    ∙ (ap (λ (l : List ℕ). values_in e a l ++ values_in e b (drop (width e * a) (drop (width e) xs))) (sym part)
    ∙ ap (λ (l : List ℕ). values_in e a (drop (width e) (take (width e * suc a) xs)) ++ values_in e b l) rest))
    ∙ ap (λ (l : List ℕ). value e l
    ∷ (values_in e a (drop (width e) (take (width e * suc a) xs)) ++ values_in e b (drop (width e * suc a) xs)))
    (sym first))

-- the array's elements have these values
abbrev Shown : Elem → List ℕ → List ℕ → (List ℕ → ℤ) → Type 0
Shown e ns bytes array = (cs : List ℕ) → IsIn ns cs → value e (element (width e) ns cs bytes) ≡ array cs

-- parts that are shown, from the k-th on
module _ (e : Elem) (ns : List ℕ) (bytes : List ℕ) (n : ℕ) (long : length bytes ≡ width e * (n * product ns))
    (part_shown : (list : List ℕ) (array : List ℕ → ℤ) → length list ≡ width e * product ns → Shown e ns list array
    → values_in e (product ns) list ≡ in_order ns array) where
  parts_shown : (count k : ℕ) (array : List ℕ → ℤ) → k + count ≤ n
      → ((x : ℕ) → x < n → Shown e ns (piece x (width e * product ns) bytes) (λ cs. array (x ∷ cs)))
      → values_in e (count * product ns) (drop (k * (width e * product ns)) bytes) ≡ parts_from (in_order ns) count k
      array
  parts_shown zero k array few shown = let none : 0 * product ns ≡ 0 = omega arith in ap
      (λ (m : ℕ). values_in e m (drop (k * (width e * product ns)) bytes)) none
  parts_shown (suc count) k array few shown =
      let size : ℕ = width e * product ns in
      let from : ℕ = k * size in
      let room : suc k * size ≤ n * size = mul-le-mul_right size (omega (arith, few)) in
      let all : width e * (n * product ns) ≡ n * size = omega arith in
      let enough : size ≤ length (drop from bytes) = subst (λ (z : ℕ). size ≤ z) (sym (length-drop from bytes))
      (omega (arith, room, all, long)) in
      let whole : length (piece k size bytes) ≡ size = length-take-le size (drop from bytes) enough in
      let next : drop size (drop from bytes) ≡ drop (suc k * size) bytes = drop-drop size from bytes
      ∙ ap (λ (z : ℕ). drop z bytes) (omega arith) in
      let one_more : suc count * product ns ≡ product ns + count * product ns = omega arith in
      ap (λ (m : ℕ). values_in e m (drop from bytes)) one_more
      ∙ (values_split e (product ns) (count * product ns) (drop from bytes)
      ∙ ap₂ (λ (a b : List ℤ). a ++ b)
      (part_shown (piece k size bytes) (λ cs. array (k ∷ cs)) whole (shown k (omega (arith, few))))
      (ap (λ (l : List ℕ). values_in e (count * product ns) l) next ∙ parts_shown count (suc k) array
      (omega (arith, few)) shown))

-- an array's values, as they stand in its bytes
pub values_shown : (e : Elem) (ns bytes : List ℕ) (array : List ℕ → ℤ) → length bytes ≡ width e * product ns
    → Shown e ns bytes array → values_in e (product ns) bytes ≡ in_order ns array
values_shown e [] bytes array long shown =
    let all : width e ≡ length bytes = omega (arith, long) in
    ap (λ (v : ℤ). v ∷ []) (ap (value e) (ap (λ (n : ℕ). take n bytes) all ∙ take-length bytes) ∙ shown [] tt)
values_shown e (n ∷ ns) bytes array long shown =
    let start : 0 ≡ 0 * (width e * product ns) = omega arith in
    ap (λ (k : ℕ). values_in e (n * product ns) (drop k bytes)) start
    ∙ parts_shown e ns bytes n long (λ list of_part is is_shown. values_shown e ns list of_part is is_shown) n 0 array
    (omega arith) (λ x below cs inside. shown (x ∷ cs) (below, inside))

output_is : (b : Bool) (want : Wanted) (bytes : List ℕ) (array : List ℕ → ℤ)
    → length bytes ≡ width want.elem * product want.extents → Shown want.elem want.extents bytes array
    → stored_output b want bytes ≡ output_text b want array
output_is false want bytes array long shown = refl
output_is true want bytes array long shown = ap (λ (vs : List ℤ). array_text want vs)
    (values_shown want.elem want.extents bytes array long shown)

-- the shape of a parameter
pub shape_there : (ps : List Param) (i : ℕ) (extents : List (List ℕ)) (j : ℕ) (p : Param) → slice_get ps j ≡ Some p
    → slice_get (param_shapes ps i extents) j ≡ Some
    (record { elem = p.elem; extents = extents_at (slice_get extents (i + j)) })
shape_there [] i extents j p there = cc
shape_there (q ∷ ps) i extents zero p there =
    let same : q ≡ p = cc in
    ap (λ (x : Param). Some (record { elem = x.elem; extents = extents_at (slice_get extents i) })) same
    ∙ ap (λ (n : ℕ). Some (record { elem = p.elem; extents = extents_at (slice_get extents n) })) (omega arith)
shape_there (q ∷ ps) i extents (suc j) p there =
    shape_there ps (i + 1) extents j p there
    ∙ ap (λ (n : ℕ). Some (record { elem = p.elem; extents = extents_at (slice_get extents n) })) (omega arith)

module _ (extents : List (List ℕ)) (list : List (List ℕ)) (after : Arrays) where
  -- the n-th array is stored whole
  record IsStored (n : ℕ) (p : Param) : Type 0 where
    pub long : length (get_or list n []) ≡ width p.elem * product (extents_at (slice_get extents n))
    pub shown : Shown p.elem (extents_at (slice_get extents n)) (get_or list n []) (after n)

  texts_from : (ps : List Param) (i : ℕ) → ((j : ℕ) (p : Param) → slice_get ps j ≡ Some p → IsStored (i + j) p)
      → stored_texts ps i extents list ≡ outputs_from ps i extents after
  texts_from [] i stored = refl
  texts_from (p ∷ ps) i stored =
      let here : IsStored i p = subst (λ (n : ℕ). IsStored n p) (omega arith) (stored 0 p refl) in
      ap₂ (λ (a b : List ℕ). a ++ b)
      (output_is (is_written p.mode)
      (record { name = p.name; elem = p.elem; extents = extents_at (slice_get extents i) }) (get_or list i [])
      (after i) here.long here.shown)
      (texts_from ps (i + 1) (λ j q there. subst (λ (n : ℕ). IsStored n q) (omega arith) (stored (suc j) q there)))

-- as long as its shape says
pub long_at : (list : List (List ℕ)) (shapes : List Shape) (n : ℕ) (s : Shape) → map length list ≡ map size_of shapes
    → slice_get shapes n ≡ Some s → length (get_or list n []) ≡ size_of s
long_at list [] n s whole there = cc
long_at [] (t ∷ shapes) n s whole there = cc
long_at (bytes ∷ list) (t ∷ shapes) zero s whole there =
    let same : t ≡ s = cc in
    let first : length bytes ≡ size_of t = cc in
    first ∙ ap size_of same
long_at (bytes ∷ list) (t ∷ shapes) (suc n) s whole there =
    let rest : map length list ≡ map size_of shapes = cc in
    long_at list shapes n s rest there

pub texts_are : (ps : List Param) (extents : List (List ℕ)) (now : Stored) (after : Arrays)
    → now.shapes ≡ param_shapes ps 0 extents → AreWhole now → Holds now.shapes now.bytes after
    → stored_texts ps 0 extents now.bytes ≡ outputs_from ps 0 extents after
texts_are ps extents now after shapes whole holds =
    texts_from extents now.bytes after ps 0 (λ j p there.
    let at : slice_get now.shapes j ≡ Some
    (record { elem = p.elem; extents = extents_at (slice_get extents (0 + j)) }) = ap
    (λ (l : List Shape). slice_get l j) shapes ∙ shape_there ps 0 extents j p there in
    let zero_plus : 0 + j ≡ j = omega arith in
    subst (λ (n : ℕ). IsStored extents now.bytes after n p) (sym zero_plus) (record {
      long = long_at now.bytes now.shapes j (record { elem = p.elem; extents = extents_at (slice_get extents j) })
          whole (at ∙ ap (λ (n : ℕ). Some (record { elem = p.elem; extents = extents_at (slice_get extents n) }))
          zero_plus);
      shown = λ cs inside. holds.held j (record { elem = p.elem; extents = extents_at (slice_get extents j) }) cs
          (at ∙ ap (λ (n : ℕ). Some (record { elem = p.elem; extents = extents_at (slice_get extents n) })) zero_plus)
          inside;
    }))
