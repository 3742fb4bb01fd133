-- An element of an array that stands in a memory.
use Rattle.std.proofs.Common.{◌≡◌, ℕ, ◌+◌, ◌*◌, ◌<◌, ◌≤◌, List, length, get_or, take, drop, sym, ap, ◌∙◌, arith}
use Rattle.std.proofs.Math.Nat.{mul-le-mul_left}
use Rattle.std.proofs.lemmas.List.{get_or-take, get_or-drop, length-take-le, length-drop}
use Rattle.sq_num.specs.Elements.{width, value}
use Rattle.sq_rect.specs.Extents.{product, row_major}
use Rattle.sq_rect.specs.Placing.{IsIn, offset}
use Rattle.sq_rect.proofs.Placing.{inside}
use Rattle.sq_leaf.specs.declared.shape.Shape.{Shape}
use Rattle.sq_flat.specs.Blocks.{element}
use Rattle.sq_flat.proofs.Standing.{element_is}
use Rattle.sq_plan_laws.specs.Codes.{listed, loaded}
use Rattle.sq_plan_laws.specs.Coordinates.{number}
use Rattle.sq_plan_laws.proofs.PlacedLists.{listed_same, listed_all}
use Rattle.sq_plan_laws.proofs.Coordinates.{byte_below}

-- so many bytes from a place on
pub cut_long : (size at : ℕ) (list : List ℕ) → at + size ≤ length list → length (take size (drop at list)) ≡ size
cut_long size at list within =
    let left = length-drop at list in
    length-take-le size (drop at list) (omega (arith, within, left))

pub cut_at : (size at : ℕ) (list : List ℕ) (k : ℕ) → k < size
    → get_or (take size (drop at list)) k 0 ≡ get_or list (at + k) 0
cut_at size at list k below = get_or-take size (drop at list) k 0 below ∙ get_or-drop at list k 0

-- the bytes of an element, one by one
element_listed : (w : ℕ) (ns cs list : List ℕ) → length list ≡ w * product ns → IsIn ns cs
    → element w ns cs list ≡ listed w (λ b. get_or list (number ns cs * w + b) 0)
element_listed w ns cs list long at =
    let o : ℕ = offset (row_major ns) cs in
    let below : w * (o + 1) ≤ w * product ns = omega (arith, mul-le-mul_left w (inside ns cs at)) in
    let bytes : List ℕ = take w (drop (w * o) list) in
    element_is w ns cs list long at
    ∙ (sym (listed_all bytes w (cut_long w (w * o) list (omega (arith, below, long))))
    ∙ listed_same w (λ b. get_or bytes b 0) (λ b. get_or list (o * w + b) 0)
    (λ b lt. cut_at w (w * o) list b lt ∙ ap (λ i. get_or list i 0) (omega arith)))

-- an element by the bytes of the memory, and by those of its array
pub loaded_is : (sh : Shape) (at : ℕ) (root cs : List ℕ) → at + product sh.extents * width sh.elem ≤ length root
    → IsIn sh.extents cs
    → loaded sh (λ k. get_or root (at + k) 0) cs
    ≡ value sh.elem (element (width sh.elem) sh.extents cs (take (product sh.extents * width sh.elem) (drop at root)))
loaded_is sh at root cs within inner =
    let w : ℕ = width sh.elem in
    let size : ℕ = product sh.extents * w in
    let list : List ℕ = take size (drop at root) in
    let long : length list ≡ w * product sh.extents = omega (arith, cut_long size at root within) in
    ap (value sh.elem)
    (listed_same w (λ b. get_or root (at + (number sh.extents cs * w + b)) 0)
    (λ b. get_or list (number sh.extents cs * w + b) 0)
    (λ b lt. sym (cut_at size at root (number sh.extents cs * w + b) (byte_below sh.extents cs w b inner lt)))
    ∙ sym (element_listed w sh.extents cs list long inner))
