-- The elements of rows that are filled and reduced.
use Rattle.std.proofs.Common.{arith, ◌≡◌, ◌∙◌, sym, ap, ap₂, refl, ℕ, zero, suc, ◌+◌, ◌*◌, ◌<◌, ℤ, pos, List, [], ◌∷◌, ◌++◌, length, take, drop, replicate, get_or}
use Rattle.std.specs.List.{flat_map}
use Rattle.std.specs.Simd.Lanes.{zip2}
use Rattle.std.proofs.lemmas.List.{drop-drop, get_or-replicate, length-replicate, length-append}
use Rattle.std.proofs.Math.Seq.{take-append_seam, drop-append-add}
use Rattle.sq_num.specs.declared.Elem.{Elem}
use Rattle.sq_num.specs.declared.Elem.TheVariants.{Byte, Int, Long}
use Rattle.sq_num.specs.declared.RedOp.{RedOp}
use Rattle.sq_num.specs.Elements.{width, value, cell, values_in}
use Rattle.sq_num.specs.Reductions.{red}
use Rattle.sq_num.proofs.Cutting.{length-cell}
use Rattle.sq_kern.specs.Rows.{cells, count, reduced}
use Rattle.sq_rect.specs.Extents.{product, row_major}
use Rattle.sq_rect.specs.Placing.{IsIn, offset}
use Rattle.sq_rect.proofs.Placing.{inside}
use Rattle.sq_flat.specs.Blocks.{element}
use Rattle.sq_flat.proofs.Standing.{element_is}

pub count_is : (e : Elem) (n : ℕ) → count e (width e * n) ≡ n
count_is Byte n = omega arith
count_is Int n = omega arith
count_is Long n = omega arith

past_one : (e : Elem) (k : ℕ) (rest : List ℕ) (v : ℤ) → drop (width e * suc k) (cell e v ++ rest) ≡ drop (width e * k) rest
past_one e k rest v =
    let there : width e * suc k ≡ length (cell e v) + width e * k = omega (arith, length-cell e v) in
    ap (λ (z : ℕ). drop z (cell e v ++ rest)) there ∙ drop-append-add (cell e v) rest (width e * k)

pub cell_at : (e : Elem) (vs : List ℤ) (k : ℕ) → k < length vs → take (width e) (drop (width e * k) (cells e vs)) ≡ cell e (get_or vs k (pos 0))
unfolding cells
cell_at e [] k below = absurd (omega (arith, below))
cell_at e (v ∷ vs) zero below =
    let none : width e * 0 ≡ 0 = omega arith in
    ap (λ (z : ℕ). take (width e) (drop z (cell e v ++ flat_map (cell e) vs))) none
    ∙ (ap (λ (z : ℕ). take z (cell e v ++ flat_map (cell e) vs)) (sym (length-cell e v)) ∙ take-append_seam (cell e v) (flat_map (cell e) vs))
cell_at e (v ∷ vs) (suc k) below = ap (take (width e)) (past_one e k (flat_map (cell e) vs) v) ∙ cell_at e vs k (omega (arith, below))

value_at : (e : Elem) (n k : ℕ) (bytes : List ℕ) → k < n → get_or (values_in e n bytes) k (pos 0) ≡ value e (take (width e) (drop (width e * k) bytes))
value_at e zero k bytes below = absurd (omega (arith, below))
value_at e (suc n) zero bytes below = let none : 0 ≡ width e * 0 = omega arith in ap (λ (z : ℕ). value e (take (width e) (drop z bytes))) none
value_at e (suc n) (suc k) bytes below =
    value_at e n k (drop (width e) bytes) (omega (arith, below))
    ∙ ap (λ (l : List ℕ). value e (take (width e) l)) (drop-drop (width e * k) (width e) bytes ∙ (let there : width e + width e * k ≡ width e * suc k = omega arith in ap (λ (z : ℕ). drop z bytes) there))

length_values : (e : Elem) (n : ℕ) (bytes : List ℕ) → length (values_in e n bytes) ≡ n
length_values e zero bytes = refl
length_values e (suc n) bytes = omega (arith, length_values e n (drop (width e) bytes))

zip_at : (f : ℤ → ℤ → ℤ) (xs ys : List ℤ) (k : ℕ) → k < length xs → length xs ≡ length ys → get_or (zip2 f xs ys) k (pos 0) ≡ f (get_or xs k (pos 0)) (get_or ys k (pos 0))
zip_at f [] ys k below same = absurd (omega (arith, below))
zip_at f (x ∷ xs) [] k below same = absurd (omega (arith, same))
zip_at f (x ∷ xs) (y ∷ ys) zero below same = refl
zip_at f (x ∷ xs) (y ∷ ys) (suc k) below same = zip_at f xs ys k (omega (arith, below)) (omega (arith, same))

zip_length : (f : ℤ → ℤ → ℤ) (xs ys : List ℤ) → length xs ≡ length ys → length (zip2 f xs ys) ≡ length xs
zip_length f [] [] same = refl
zip_length f [] (y ∷ ys) same = refl
zip_length f (x ∷ xs) [] same = absurd (omega (arith, same))
zip_length f (x ∷ xs) (y ∷ ys) same = omega (arith, zip_length f xs ys (omega (arith, same)))

pub reduced_at : (op : RedOp) (e : Elem) (n k : ℕ) (from into : List ℕ) → k < n
    → take (width e) (drop (width e * k) (reduced op e n from into)) ≡ cell e (red op e (value e (take (width e) (drop (width e * k) into))) (value e (take (width e) (drop (width e * k) from))))
unfolding reduced
reduced_at op e n k from into below =
    let into_long = length_values e n into in
    let from_long = length_values e n from in
    let same : length (values_in e n into) ≡ length (values_in e n from) = into_long ∙ sym from_long in
    let all = zip_length (red op e) (values_in e n into) (values_in e n from) same in
    cell_at e (zip2 (red op e) (values_in e n into) (values_in e n from)) k (omega (arith, all, into_long, below))
    ∙ ap (cell e) (zip_at (red op e) (values_in e n into) (values_in e n from) k (omega (arith, into_long, below)) same ∙ ap₂ (red op e) (value_at e n k into below) (value_at e n k from below))

-- ---- elements of arrays

cells_length : (e : Elem) (vs : List ℤ) → length (cells e vs) ≡ width e * length vs
unfolding cells
cells_length e [] = omega arith
cells_length e (v ∷ vs) = length-append (cell e v) (flat_map (cell e) vs) ∙ omega (arith, length-cell e v, cells_length e vs)

pub filled_length : (e : Elem) (n : ℕ) (v : ℤ) → length (cells e (replicate n v)) ≡ width e * n
filled_length e n v = cells_length e (replicate n v) ∙ ap (λ (z : ℕ). width e * z) (length-replicate n v)

pub filled_element : (e : Elem) (ns cs : List ℕ) (v : ℤ) → IsIn ns cs → element (width e) ns cs (cells e (replicate (product ns) v)) ≡ cell e v
filled_element e ns cs v at =
    let k : ℕ = offset (row_major ns) cs in
    let below : k < product ns = inside ns cs at in
    let long = length-replicate (product ns) v in
    element_is (width e) ns cs (cells e (replicate (product ns) v)) (filled_length e (product ns) v) at
    ∙ (cell_at e (replicate (product ns) v) k (omega (arith, below, long)) ∙ ap (cell e) (get_or-replicate (product ns) k v (pos 0) below))

pub reduced_element : (op : RedOp) (e : Elem) (ns cs from into : List ℕ) → IsIn ns cs → length from ≡ width e * product ns → length into ≡ width e * product ns
    → length (reduced op e (product ns) from into) ≡ width e * product ns
    → element (width e) ns cs (reduced op e (product ns) from into) ≡ cell e (red op e (value e (element (width e) ns cs into)) (value e (element (width e) ns cs from)))
reduced_element op e ns cs from into at from_long into_long long =
    let k : ℕ = offset (row_major ns) cs in
    let below : k < product ns = inside ns cs at in
    element_is (width e) ns cs (reduced op e (product ns) from into) long at
    ∙ (reduced_at op e (product ns) k from into below
    ∙ ap₂ (λ (x y : List ℕ). cell e (red op e (value e x) (value e y))) (sym (element_is (width e) ns cs into into_long at)) (sym (element_is (width e) ns cs from from_long at)))
