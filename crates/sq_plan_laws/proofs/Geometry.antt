-- Bytes of arrays by their numbers: of buffers, of blocks, and of rows.
use Rattle.std.proofs.Common.{◌≡◌, ℕ, zero, suc, ◌+◌, ◌*◌, ◌/◌, ◌%◌, ◌<◌, List, [], ◌∷◌, refl, sym, ap, ap₂, ◌∙◌, subst}
use Rattle.std.proofs.Common.{arith}
use Rattle.std.proofs.Math.Nat.{mul_comm, mul_assoc, add-mul, mul-add, mul-one, mod-lt, div-lt_iff_lt-mul}
use Rattle.std.proofs.lemmas.Nat.{div-mul-add, mod-mul-add, div-add-mod'}
use Rattle.sq_num.specs.Elements.{width}
use Rattle.sq_text.specs.declared.place.Span.{Span}
use Rattle.sq_rect.specs.Extents.{product, last_of, rows_of, row_major}
use Rattle.sq_rect.specs.Placing.{IsIn, offset, place_of}
use Rattle.sq_leaf.specs.declared.shape.Shape.{Shape}
use Rattle.sq_blocks.specs.Arguments.{lengths}
use Rattle.sq_work.specs.Meaning.{in_array}
use Rattle.sq_ir.specs.Written.{Setting}
use Rattle.sq_placed.specs.Placed.{PlacedArg}
use Rattle.sq_placed.specs.Seats.{Seat, buffer_seat, block_seat, firsts, row_first, row_spot}
use Rattle.sq_cells.specs.Cells.{Spot, spot}
use Rattle.sq_cells.specs.Rows.{AreRows}
use Rattle.sq_cells.proofs.Rows.{within_rows}
use Rattle.sq_plan_laws.specs.Coordinates.{number, coordinate, block_cell, Fits}
use Rattle.sq_plan_laws.specs.Codes.{bytes_in}
use Rattle.sq_plan_laws.proofs.Coordinates.{coordinate_of_number, in_of, element_under}
use Rattle.sq_plan_laws.specs.Seated.{HasDims, IsLined, seat_cell}

-- ---- buffers

pub lined_buffer : (ns : List ℕ) → HasDims ns → IsLined ns (row_major ns)
lined_buffer [] h = absurd h
lined_buffer (n ∷ []) h = refl
lined_buffer (n ∷ m ∷ []) h = refl
lined_buffer (n ∷ m ∷ k ∷ []) h = refl
lined_buffer (n ∷ m ∷ k ∷ l ∷ ns) h = absurd h

pub buffer_cell : (s : Setting) (node b : ℕ) (sh : Shape) (k : ℕ) → k < bytes_in sh
    → seat_cell (buffer_seat s node b sh) k ≡ spot node (s.offset b + k)
buffer_cell s node b sh k lt =
    let e = element_under sh.extents (width sh.elem) k lt in
    let c = mul_comm (width sh.elem) (number sh.extents (coordinate sh.extents (k / width sh.elem))) in
    ap (spot node) (omega (arith, e.4, c))

-- ---- blocks

offset_block : (ss : List ℕ) (rect : List Span) (cs : List ℕ) → IsIn (lengths rect) cs → offset ss (in_array rect cs)
    ≡ offset ss (firsts rect) + offset ss cs
offset_block [] [] [] h = refl
offset_block [] [] (c ∷ cs) h = absurd h
offset_block [] (x ∷ rect) [] h = absurd h
offset_block [] (x ∷ rect) (c ∷ cs) h = refl
offset_block (s ∷ ss) [] [] h = refl
offset_block (s ∷ ss) [] (c ∷ cs) h = absurd h
offset_block (s ∷ ss) (x ∷ rect) [] h = absurd h
offset_block (s ∷ ss) (x ∷ rect) (c ∷ cs) h =
    let r = offset_block ss rect cs h.1 in
    let e = add-mul x.lo c s in
    omega (arith, r, e)

pub block_seat_cell : (p : PlacedArg) (c : Seat) → p.shape.elem ≡ c.view.elem → p.shape.extents
    ≡ lengths p.argument.rect → Fits p.argument.rect c.view.extents → (k : ℕ) → k < bytes_in p.shape
    → seat_cell (block_seat p c) k ≡ seat_cell c (block_cell (width c.view.elem) p.argument.rect c.view.extents k)
block_seat_cell p c elem ext fits k lt =
    let w = width c.view.elem in
    let rect = p.argument.rect in
    let lt' : k < product (lengths rect) * w
    = subst (λ x. k < product x * w) ext (subst (λ x. k < product p.shape.extents * width x) elem lt) in
    let u = element_under (lengths rect) w k lt' in
    let x = coordinate (lengths rect) (k / w) in
    let n = number c.view.extents (in_array rect x) in
    let a : coordinate c.view.extents ((n * w + k % w) / w) ≡ in_array rect x
    = ap (coordinate c.view.extents) (div-mul-add n w (k % w) u.3)
    ∙ coordinate_of_number c.view.extents (in_array rect x) (in_of rect c.view.extents x fits u.2) in
    let b : (n * w + k % w) % w ≡ k % w = mod-mul-add n w (k % w) u.3 in
    let o = offset_block c.view.strides rect x u.2 in
    let d = mul-add w (offset c.view.strides (firsts rect)) (offset c.view.strides x) in
    let f : w * offset c.view.strides (in_array rect x) ≡ w * offset c.view.strides (firsts rect)
    + w * offset c.view.strides x = ap (λ y. w * y) o ∙ d in
    ap (λ y. spot c.node (place_of (block_seat p c).view (coordinate y (k / w)) + k % w)) ext
    ∙ ap (spot c.node) (omega (arith, f))
    ∙ sym (ap₂ (λ y z. spot c.node (place_of c.view y + z)) a b)

-- blocks are lined as their arrays are
fits_dims : (rect : List Span) (ns ss : List ℕ) → Fits rect ns → IsLined ns ss → IsLined (lengths rect) ss
fits_dims [] [] ss f h = absurd h
fits_dims [] (n ∷ ns) ss f h = absurd f
fits_dims (x ∷ rect) [] ss f h = absurd f
fits_dims (x ∷ []) (n ∷ []) [] f h = absurd h
fits_dims (x ∷ []) (n ∷ []) (s ∷ []) f h = h
fits_dims (x ∷ []) (n ∷ []) (s ∷ t ∷ ss) f h = absurd h
fits_dims (x ∷ []) (n ∷ m ∷ ns) ss f h = absurd f.2
fits_dims (x ∷ y ∷ rect) (n ∷ []) ss f h = absurd f.2
fits_dims (x ∷ y ∷ []) (n ∷ m ∷ []) [] f h = absurd h
fits_dims (x ∷ y ∷ []) (n ∷ m ∷ []) (s ∷ []) f h = absurd h
fits_dims (x ∷ y ∷ []) (n ∷ m ∷ []) (s ∷ t ∷ []) f h = h
fits_dims (x ∷ y ∷ []) (n ∷ m ∷ []) (s ∷ t ∷ u ∷ ss) f h = absurd h
fits_dims (x ∷ y ∷ []) (n ∷ m ∷ k ∷ ns) ss f h = absurd f.2.2
fits_dims (x ∷ y ∷ z ∷ rect) (n ∷ m ∷ []) ss f h = absurd f.2.2
fits_dims (x ∷ y ∷ z ∷ []) (n ∷ m ∷ k ∷ []) [] f h = absurd h
fits_dims (x ∷ y ∷ z ∷ []) (n ∷ m ∷ k ∷ []) (s ∷ []) f h = absurd h
fits_dims (x ∷ y ∷ z ∷ []) (n ∷ m ∷ k ∷ []) (s ∷ t ∷ []) f h = absurd h
fits_dims (x ∷ y ∷ z ∷ []) (n ∷ m ∷ k ∷ []) (s ∷ t ∷ u ∷ []) f h = h
fits_dims (x ∷ y ∷ z ∷ []) (n ∷ m ∷ k ∷ []) (s ∷ t ∷ u ∷ v ∷ ss) f h = absurd h
fits_dims (x ∷ y ∷ z ∷ []) (n ∷ m ∷ k ∷ l ∷ ns) ss f h = absurd f.2.2.2
fits_dims (x ∷ y ∷ z ∷ o ∷ rect) (n ∷ m ∷ k ∷ []) ss f h = absurd f.2.2.2
fits_dims (x ∷ y ∷ z ∷ o ∷ rect) (n ∷ m ∷ k ∷ l ∷ ns) ss f h = absurd h

pub lined_block : (rect : List Span) (ns ss ext : List ℕ) → ext ≡ lengths rect → Fits rect ns → IsLined ns ss
    → IsLined ext ss
lined_block rect ns ss ext e f h = subst (λ x. IsLined x ss) (sym e) (fits_dims rect ns ss f h)

pub dims_of : (ns ss : List ℕ) → IsLined ns ss → HasDims ns
dims_of [] ss h = absurd h
dims_of (n ∷ []) ss h = tt
dims_of (n ∷ m ∷ []) ss h = tt
dims_of (n ∷ m ∷ k ∷ []) ss h = tt
dims_of (n ∷ m ∷ k ∷ l ∷ ns) ss h = absurd h

-- ---- rows

-- the coordinate of element y of row r
abbrev in_row : List ℕ → (r y : ℕ) → List ℕ
in_row (n ∷ []) r y = y ∷ []
in_row (n ∷ m ∷ []) r y = r ∷ y ∷ []
in_row (n ∷ m ∷ k ∷ []) r y = (r / m) ∷ (r % m) ∷ y ∷ []
in_row ns r y = []

row_in : (ns : List ℕ) (r y : ℕ) → HasDims ns → r < rows_of ns → y < last_of ns → IsIn ns (in_row ns r y)
row_in [] r y h lr ly = absurd h
row_in (n ∷ []) r y h lr ly = (ly, tt)
row_in (n ∷ m ∷ []) r y h lr ly = (omega (arith, lr, mul-one n), (ly, tt))
row_in (n ∷ m ∷ k ∷ []) r y h lr ly =
    let e : n * (m * 1) ≡ n * m = ap (λ x. n * x) (mul-one m) in
    let lt : r < n * m = omega (arith, lr, e) in
    let some : 0 < m = some_of n m r lt in
    ((div-lt_iff_lt-mul some).1 lt, (mod-lt r some, (ly, tt)))
  where
    some_of : (n m r : ℕ) → r < n * m → 0 < m
    some_of n zero r lt = let z : n * 0 ≡ 0 = omega arith in absurd (omega (arith, lt, z))
    some_of n (suc m) r lt = omega arith
row_in (n ∷ m ∷ k ∷ l ∷ ns) r y h lr ly = absurd h

row_at_number : (ns : List ℕ) (r y : ℕ) → HasDims ns → r < rows_of ns → number ns (in_row ns r y) ≡ r * last_of ns + y
row_at_number [] r y h lr = absurd h
row_at_number (n ∷ []) r y h lr = let e : r ≡ 0 = omega (arith, lr) in let f : r * n ≡ 0 * n
    = ap (λ x. x * n) e in omega (arith, f, mul-one y)
row_at_number (n ∷ m ∷ []) r y h lr = let e : r * (m * 1) ≡ r * m
    = ap (λ x. r * x) (mul-one m) in omega (arith, e, mul-one y)
row_at_number (n ∷ m ∷ k ∷ []) r y h lr =
    let e : r / m * (m * (k * 1)) ≡ r / m * (m * k) = ap (λ x. r / m * (m * x)) (mul-one k) in
    let f : r % m * (k * 1) ≡ r % m * k = ap (λ x. r % m * x) (mul-one k) in
    let g = mul_assoc (r / m) m k in
    let i = add-mul (r / m * m) (r % m) k in
    let j : (r / m * m + r % m) * k ≡ r * k = ap (λ x. x * k) (div-add-mod' r m) in
    omega (arith, e, f, g, i, j, mul-one y)
row_at_number (n ∷ m ∷ k ∷ l ∷ ns) r y h lr = absurd h

pub rows_size : (ns : List ℕ) (w : ℕ) → HasDims ns → product ns * w ≡ rows_of ns * (w * last_of ns)
rows_size [] w h = absurd h
rows_size (n ∷ []) w h = let e : n * 1 * w ≡ n * w = ap (λ x. x * w) (mul-one n) in omega (arith, e, mul_comm n w)
rows_size (n ∷ m ∷ []) w h =
    let e : n * (m * 1) * w ≡ n * m * w = ap (λ x. n * x * w) (mul-one m) in
    let f : n * 1 * (w * m) ≡ n * (w * m) = ap (λ x. x * (w * m)) (mul-one n) in
    e ∙ mul_assoc n m w ∙ ap (λ x. n * x) (mul_comm m w) ∙ sym f
rows_size (n ∷ m ∷ k ∷ []) w h =
    let e : n * (m * (k * 1)) * w ≡ n * (m * k) * w = ap (λ x. n * (m * x) * w) (mul-one k) in
    let f : n * (m * 1) * (w * k) ≡ n * m * (w * k) = ap (λ x. n * x * (w * k)) (mul-one m) in
    e ∙ ap (λ x. x * w) (sym (mul_assoc n m k)) ∙ mul_assoc (n * m) k w ∙ ap (λ x. n * m * x) (mul_comm k w) ∙ sym f
rows_size (n ∷ m ∷ k ∷ l ∷ ns) w h = absurd h

-- element y of a row lies y elements behind its first
row_offset : (ns ss : List ℕ) (r y : ℕ) → IsLined ns ss → offset ss (in_row ns r y) ≡ offset ss (row_first ns r) + y
row_offset [] ss r y h = absurd h
row_offset (n ∷ []) [] r y h = absurd h
row_offset (n ∷ []) (s ∷ []) r y h = let e : y * s ≡ y * 1 = ap (λ x. y * x) h in omega (arith, e, mul-one y)
row_offset (n ∷ []) (s ∷ t ∷ ss) r y h = absurd h
row_offset (n ∷ m ∷ []) [] r y h = absurd h
row_offset (n ∷ m ∷ []) (s ∷ []) r y h = absurd h
row_offset (n ∷ m ∷ []) (s ∷ t ∷ []) r y h = let e : y * t ≡ y * 1 = ap (λ x. y * x) h in omega (arith, e, mul-one y)
row_offset (n ∷ m ∷ []) (s ∷ t ∷ u ∷ ss) r y h = absurd h
row_offset (n ∷ m ∷ k ∷ []) [] r y h = absurd h
row_offset (n ∷ m ∷ k ∷ []) (s ∷ []) r y h = absurd h
row_offset (n ∷ m ∷ k ∷ []) (s ∷ t ∷ []) r y h = absurd h
row_offset (n ∷ m ∷ k ∷ []) (s ∷ t ∷ u ∷ []) r y h = let e : y * u ≡ y * 1
    = ap (λ x. y * x) h in omega (arith, e, mul-one y)
row_offset (n ∷ m ∷ k ∷ []) (s ∷ t ∷ u ∷ v ∷ ss) r y h = absurd h
row_offset (n ∷ m ∷ k ∷ l ∷ ns) ss r y h = absurd h

-- an array's bytes are its rows'
pub seat_rows : (q : Seat) (ext : List ℕ) (w n : ℕ) (cell : ℕ → Spot) → IsLined q.view.extents q.view.strides
    → q.view.extents ≡ ext → width q.view.elem ≡ w → n ≡ product ext * w → ((k : ℕ) → k < n → cell k ≡ seat_cell q k)
    → AreRows (rows_of ext) (w * last_of ext) (row_spot q) n cell
seat_rows q ext w n cell lined ext_is w_is size cells =
    subst (λ x. AreRows (rows_of x) (w * last_of x) (row_spot q) n cell) ext_is
    (subst (λ x. AreRows (rows_of ns) (x * last_of ns) (row_spot q) n cell) w_is
    (record { size = is; at = one }))
  where
    ns : List ℕ
    ns = q.view.extents

    v : ℕ
    v = width q.view.elem

    dims : HasDims q.view.extents
    dims = dims_of q.view.extents q.view.strides lined

    is : n ≡ rows_of q.view.extents * (width q.view.elem * last_of q.view.extents)
    is = size ∙ ap₂ (λ x y. product x * y) (sym ext_is) (sym w_is) ∙ rows_size q.view.extents (width q.view.elem) dims

    one : (r j : ℕ) → r < rows_of q.view.extents → j < width q.view.elem * last_of q.view.extents
        → cell (r * (width q.view.elem * last_of q.view.extents) + j)
        ≡ spot q.node (place_of q.view (row_first q.view.extents r) + j)
    one r j lr lj =
        let x = q.view.extents in
        let u = width q.view.elem in
        let last = last_of x in
        let lj' : j < last * u = omega (arith, lj, mul_comm u last) in
        let some : 0 < u = some_of last u j lj' in
        let y = j / u in
        let ly : y < last = (div-lt_iff_lt-mul some).1 lj' in
        let dm = div-add-mod' j u in
        let e : r * (u * last) + j ≡ (r * last + y) * u + j % u = let a
        = add-mul (r * last) y u in let b : r * (u * last) ≡ r * last * u = ap (λ z. r * z) (mul_comm u last)
        ∙ sym (mul_assoc r last u) in omega (arith, a, b, dm) in
        let lu : j % u < u = mod-lt j some in
        let dv : (r * (u * last) + j) / u ≡ r * last + y = ap (λ z. z / u) e
        ∙ div-mul-add (r * last + y) u (j % u) lu in
        let mo : (r * (u * last) + j) % u ≡ j % u = ap (λ z. z % u) e ∙ mod-mul-add (r * last + y) u (j % u) lu in
        let co : coordinate x (r * last + y) ≡ in_row x r y = ap (coordinate x) (sym (row_at_number x r y dims lr))
        ∙ coordinate_of_number x (in_row x r y) (row_in x r y dims lr ly) in
        let ro : u * offset q.view.strides (in_row x r y) ≡ u * offset q.view.strides (row_first x r) + u * y
        = ap (λ z. u * z) (row_offset x q.view.strides r y lined)
        ∙ mul-add u (offset q.view.strides (row_first x r)) y in
        let cm = mul_comm u y in
        cells (r * (u * last) + j) (subst (λ z. r * (u * last) + j < z) (sym is) (within (rows_of x) r lr))
        ∙ ap₂ (λ c m. spot q.node (place_of q.view c + m)) (ap (coordinate x) dv ∙ co) mo
        ∙ ap (spot q.node) (omega (arith, ro, cm, dm))
      where
        some_of : (n m r : ℕ) → r < n * m → 0 < m
        some_of n zero r lt = let z : n * 0 ≡ 0 = omega arith in absurd (omega (arith, lt, z))
        some_of n (suc m) r lt = omega arith

        within : (w r : ℕ) → r < w → r * (width q.view.elem * last_of q.view.extents) + j
            < w * (width q.view.elem * last_of q.view.extents)
        within w r lt = within_rows (width q.view.elem * last_of q.view.extents) w r j lt lj
