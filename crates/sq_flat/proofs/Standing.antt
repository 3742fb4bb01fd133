-- An element of an array stands in a memory where its view says.
use Rattle.std.proofs.Common.{arith, ◌≡◌, ◌∙◌, sym, ap, subst, ℕ, ◌+◌, ◌-◌, ◌*◌, ◌≤◌, List, [], ◌∷◌, length, take, drop}
use Rattle.std.proofs.lemmas.List.{drop-take, drop-drop, take-take, length-take-le, length-drop}
use Rattle.std.proofs.Math.Nat.{mul-le-mul_left}
use Rattle.std.proofs.Math.Seq.{take-length}
use Rattle.sq_num.specs.Elements.{width, value}
use Rattle.sq_rect.specs.declared.view.View.{View}
use Rattle.sq_rect.specs.Extents.{product, row_major}
use Rattle.sq_rect.specs.Placing.{IsIn, offset}
use Rattle.sq_rect.proofs.Placing.{inside}
use Rattle.sq_leaf.specs.Spots.{load}
use Rattle.sq_leaf.specs.Views.{spot_of}
use Rattle.sq_flat.specs.Blocks.{piece, element}
use Rattle.sq_flat.specs.Memory.{bytes_of, IsPlaced}
use Rattle.sq_flat.proofs.Elements.{piece_whole}

-- w bytes from the element's offset on
pub element_is : (w : ℕ) (ns cs list : List ℕ) → length list ≡ w * product ns → IsIn ns cs → element w ns cs list ≡ take w (drop (w * offset (row_major ns) cs) list)
element_is w [] [] list is at =
    let all : w ≡ length list = omega (arith, is) in
    let none : w * 0 ≡ 0 = omega arith in
    sym (ap (λ (z : ℕ). take w (drop z list)) none ∙ (ap (λ (z : ℕ). take z list) all ∙ take-length list))
element_is w [] (c ∷ cs) list is at = absurd at
element_is w (n ∷ ns) [] list is at = absurd at
element_is w (n ∷ ns) (c ∷ cs) list is at =
    let size : ℕ = w * product ns in
    let o : ℕ = offset (row_major ns) cs in
    let below : w * (o + 1) ≤ w * product ns = omega (arith, mul-le-mul_left w (inside ns cs at.1)) in
    let split : w * o + (size - w * o) ≡ size = omega (arith, below) in
    let there : w * offset (row_major (n ∷ ns)) (c ∷ cs) ≡ c * size + w * o = omega arith in
    element_is w ns cs (piece c size list) (piece_whole w c n ns list at.0 is) at.1
    ∙ (ap (λ (z : ℕ). take w (drop (w * o) (take z (drop (c * size) list)))) (sym split)
    ∙ (ap (take w) (drop-take (w * o) (size - w * o) (drop (c * size) list))
    ∙ (take-take w (size - w * o) (drop (w * o) (drop (c * size) list)) (omega (arith, below))
    ∙ (ap (take w) (drop-drop (w * o) (c * size) list)
    ∙ ap (λ (z : ℕ). take w (drop z list)) (sym there)))))

pub length_bytes : (v : View) (bytes : List ℕ) → IsPlaced v bytes → length (bytes_of v bytes) ≡ width v.elem * product v.extents
length_bytes v bytes placed =
    length-take-le (width v.elem * product v.extents) (drop v.at bytes)
    (subst (λ (z : ℕ). width v.elem * product v.extents ≤ z) (sym (length-drop v.at bytes)) (omega (arith, placed.ends)))

pub loaded : (v : View) (bytes cs : List ℕ) → IsPlaced v bytes → IsIn v.extents cs → load (spot_of v cs) bytes ≡ value v.elem (element (width v.elem) v.extents cs (bytes_of v bytes))
loaded v bytes cs placed at =
    let w : ℕ = width v.elem in
    let size : ℕ = w * product v.extents in
    let o : ℕ = offset (row_major v.extents) cs in
    let below : w * (o + 1) ≤ w * product v.extents = omega (arith, mul-le-mul_left w (inside v.extents cs at)) in
    let split : w * o + (size - w * o) ≡ size = omega (arith, below) in
    ap (value v.elem)
    (ap (λ (ss : List ℕ). take w (drop (v.at + w * offset ss cs) bytes)) placed.strides
    ∙ sym (element_is w v.extents cs (bytes_of v bytes) (length_bytes v bytes placed) at
    ∙ (ap (λ (z : ℕ). take w (drop (w * o) (take z (drop v.at bytes)))) (sym split)
    ∙ (ap (take w) (drop-take (w * o) (size - w * o) (drop v.at bytes))
    ∙ (take-take w (size - w * o) (drop (w * o) (drop v.at bytes)) (omega (arith, below))
    ∙ ap (take w) (drop-drop (w * o) v.at bytes))))))
