-- One argument of a call: its copies, fills and accumulations.
use Rattle.std.proofs.Common.{◌≡◌, ℕ, zero, suc, ◌*◌, ◌%◌, ◌<◌, Bool, true, false, not, List, [], ◌∷◌, get_or}
use Rattle.std.proofs.Common.{slice_get, Option, Some, None, refl, sym, ap, ap₂, ◌∙◌, subst, pos}
use Rattle.std.proofs.Math.Nat.{mul_comm}
use Rattle.sq_num.specs.declared.Elem.{Elem}
use Rattle.sq_num.specs.declared.Elem.TheVariants.{Byte, Int, Long}
use Rattle.sq_num.specs.declared.RedOp.{RedOp}
use Rattle.sq_num.specs.Elements.{width, cell, modulus}
use Rattle.sq_num.specs.Reductions.{identity}
use Rattle.sq_rect.specs.Extents.{product, last_of, rows_of}
use Rattle.sq_ast.specs.declared.program.Mode.{Mode}
use Rattle.sq_ast.specs.declared.program.Mode.TheVariants as mode
use Rattle.sq_leaf.specs.declared.shape.Shape.{Shape}
use Rattle.sq_blocks.specs.Arguments.{lengths}
use Rattle.sq_ir.specs.Events.{Leaves}
use Rattle.sq_ir.specs.Written.{Setting}
use Rattle.sq_placed.specs.declared.home.Home.{Home}
use Rattle.sq_placed.specs.declared.home.Home.TheVariants.{InPlace, Own, Held, Twin}
use Rattle.sq_placed.specs.Placed.{PlacedArg}
use Rattle.sq_placed.specs.Seats.{Seat, SeatedArg, seat_arg, own_seat, block_seat, row_spot, row_bytes}
use Rattle.sq_placed.specs.Trees.{copy_rows, fill_rows, add_rows, copy_in, copy_out, is_moved, bring_by, bring}
use Rattle.sq_placed.specs.Trees.{give_back_by, give_back, hold_in_by, hold_in, hold_out_by, hold_out}
use Rattle.sq_cells.specs.Cells.{Spot}
use Rattle.sq_cells.specs.Tree as cells
use Rattle.sq_cells.specs.Tree.{Cause, identity_of, width_of}
use Rattle.sq_cells.specs.Lowered as lowered
use Rattle.sq_cells.specs.Lowered.{Layout, stays}
use Rattle.sq_cells.specs.Alike.{IsLike}
use Rattle.sq_cells.specs.Rows.{AreRows}
use Rattle.sq_cells.proofs.Combine.{like_skip}
use Rattle.sq_cells.proofs.Moves.{like_copies, like_fills, like_sums}
use Rattle.sq_plan_laws.specs.Coordinates.{Fits, block_cell}
use Rattle.sq_plan_laws.specs.Codes.{bytes_in}
use Rattle.sq_plan_laws.specs.Calling.{mode_by, place_of, block_of}
use Rattle.sq_plan_laws.proofs.Coordinates.{element_under, byte_below, in_of}
use Rattle.sq_plan_laws.specs.Seated.{IsLined, shape_of, seat_cell, IsSeated, IsOwned}
use Rattle.sq_plan_laws.proofs.Geometry.{lined_buffer, block_seat_cell, lined_block, dims_of, seat_rows}

-- ---- seats

module _ (leaves : Leaves Cause) where
  pub like_copy : (q from to : Seat) (n : ℕ) (fc tc : ℕ → Spot)
      → AreRows (rows_of q.view.extents) (row_bytes q.view) (row_spot from) n fc
      → AreRows (rows_of q.view.extents) (row_bytes q.view) (row_spot to) n tc
      → IsLike leaves (copy_rows q from to) (cells.Act (cells.Copy n fc tc))
  like_copy q from to n fc tc f t
      = like_copies leaves (rows_of q.view.extents) (row_bytes q.view) (row_spot from) (row_spot to) n fc tc f t

  pub like_fill : (v : _) (q : Seat) (n : ℕ) (tc : ℕ → Spot) (val : ℕ → ℕ)
      → AreRows (rows_of q.view.extents) (row_bytes q.view) (row_spot q) n tc
      → ((k : ℕ) → k < n → val k ≡ get_or (cell q.view.elem v) (k % width q.view.elem) 0)
      → IsLike leaves (fill_rows v q) (cells.Act (cells.Fill n val tc))
  like_fill v q n tc val t vals =
      like_fills leaves (rows_of q.view.extents) q.view.elem (last_of q.view.extents) v (row_spot q) n tc
      (subst (λ x. AreRows (rows_of q.view.extents) x (row_spot q) n tc)
      (mul_comm (width q.view.elem) (last_of q.view.extents)) t) val vals

  pub like_add : (op : RedOp) (q from to : Seat) (n : ℕ) (fc tc : ℕ → Spot)
      → AreRows (rows_of q.view.extents) (row_bytes q.view) (row_spot from) n fc
      → AreRows (rows_of q.view.extents) (row_bytes q.view) (row_spot to) n tc
      → IsLike leaves (add_rows op q from to) (cells.Act (cells.Acc (record { red = op; elem = q.view.elem }) n fc tc))
  like_add op q from to n fc tc f t =
      like_sums leaves (rows_of q.view.extents) op q.view.elem (last_of q.view.extents) (row_spot from) (row_spot to) n
      fc tc
      (subst (λ x. AreRows (rows_of q.view.extents) x (row_spot from) n fc)
      (mul_comm (width q.view.elem) (last_of q.view.extents)) f)
      (subst (λ x. AreRows (rows_of q.view.extents) x (row_spot to) n tc)
      (mul_comm (width q.view.elem) (last_of q.view.extents)) t)

-- the bytes of 0
pub zeros : (e : Elem) (k : ℕ) → zero ≡ get_or (cell e (pos 0)) k 0
unfolding cell modulus
zeros Byte k = one k
  where
    one : (k : ℕ) → zero ≡ get_or (0 ∷ []) k 0
    one zero = refl
    one (suc k) = refl
zeros Int k = four k
  where
    four : (k : ℕ) → zero ≡ get_or (0 ∷ 0 ∷ 0 ∷ 0 ∷ []) k 0
    four zero = refl
    four (suc zero) = refl
    four (suc (suc zero)) = refl
    four (suc (suc (suc zero))) = refl
    four (suc (suc (suc (suc k)))) = refl
zeros Long k = eight k
  where
    eight : (k : ℕ) → zero ≡ get_or (0 ∷ 0 ∷ 0 ∷ 0 ∷ 0 ∷ 0 ∷ 0 ∷ 0 ∷ []) k 0
    eight zero = refl
    eight (suc zero) = refl
    eight (suc (suc zero)) = refl
    eight (suc (suc (suc zero))) = refl
    eight (suc (suc (suc (suc zero)))) = refl
    eight (suc (suc (suc (suc (suc zero))))) = refl
    eight (suc (suc (suc (suc (suc (suc zero)))))) = refl
    eight (suc (suc (suc (suc (suc (suc (suc zero))))))) = refl
    eight (suc (suc (suc (suc (suc (suc (suc (suc k)))))))) = refl

identity_bytes : (op : RedOp) (e f : Elem) (k : ℕ) → e ≡ f
    → identity_of (record { red = op; elem = e }) (k % width_of (record { red = op; elem = e }))
    ≡ get_or (cell f (identity op f)) (k % width f) 0
unfolding identity_of width_of
identity_bytes op e f k same = ap (λ x. get_or (cell x (identity op x)) (k % width x) 0) same

pub moved_stays : (h : Home) → stays (place_of h) ≡ not (is_moved h)
moved_stays InPlace = refl
moved_stays (Own b) = refl
moved_stays (Held b l) = refl
moved_stays (Twin b c) = refl

-- ---- an argument

module _ (s : Setting) (outer : List Shape) (seats : List Seat) (at : Layout) (seated : IsSeated outer seats at)
    (p : PlacedArg) (q : Seat) (there : slice_get seats p.argument.array ≡ Some q)
    (known : slice_get outer p.argument.array ≡ Some (shape_of q)) (fit : Fits p.argument.rect q.view.extents)
    (elem : p.shape.elem ≡ q.view.elem) (ext : p.shape.extents ≡ lengths p.argument.rect) (inside : ℕ) where
  abbrev pub size : ℕ
  size = bytes_in p.shape

  abbrev pub from_cell : ℕ → Spot
  from_cell k = at (block_of (slice_get outer p.argument.array) p.argument k)

  abbrev pub own : Seat
  own = own_seat s inside p.shape p.home (block_seat p q)

  abbrev pub its : SeatedArg
  its = seat_arg s inside p q

  pub from_is : (k : ℕ) → k < size → from_cell k ≡ seat_cell (block_seat p q) k
  from_is k lt =
      let w = width q.view.elem in
      let lt' : k < product (lengths p.argument.rect) * w
      = subst (λ x. k < product x * w) ext (subst (λ x. k < product p.shape.extents * width x) elem lt) in
      let u = element_under (lengths p.argument.rect) w k lt' in
      ap (λ o. at (block_of o p.argument k)) known
      ∙ seated.cells p.argument.array (block_cell w p.argument.rect q.view.extents k) q there
      (byte_below q.view.extents _ w (k % w) (in_of p.argument.rect q.view.extents _ fit u.2) u.3)
      ∙ sym (block_seat_cell p q elem ext fit k lt)

  lined_in : IsLined p.shape.extents q.view.strides
  lined_in = lined_block p.argument.rect q.view.extents q.view.strides p.shape.extents ext fit
      (seated.lined p.argument.array q there)

  own_lined : (h : Home) → IsLined (own_seat s inside p.shape h (block_seat p q)).view.extents
      (own_seat s inside p.shape h (block_seat p q)).view.strides
  own_lined InPlace = lined_in
  own_lined (Own b) = lined_buffer p.shape.extents (dims_of p.shape.extents q.view.strides lined_in)
  own_lined (Held b l) = lined_buffer p.shape.extents (dims_of p.shape.extents q.view.strides lined_in)
  own_lined (Twin b c) = lined_buffer p.shape.extents (dims_of p.shape.extents q.view.strides lined_in)

  own_extents : (h : Home) → (own_seat s inside p.shape h (block_seat p q)).view.extents ≡ p.shape.extents
  own_extents InPlace = refl
  own_extents (Own b) = refl
  own_extents (Held b l) = refl
  own_extents (Twin b c) = refl

  pub own_elem : (h : Home) → (own_seat s inside p.shape h (block_seat p q)).view.elem ≡ p.shape.elem
  own_elem InPlace = sym elem
  own_elem (Own b) = refl
  own_elem (Held b l) = refl
  own_elem (Twin b c) = refl

  pub own_shape : shape_of own ≡ p.shape
  own_shape = ap₂ (λ e x. record { elem = e; extents = x }) (own_elem p.home) (own_extents p.home)

  pub own_is_lined : IsLined own.view.extents own.view.strides
  own_is_lined = own_lined p.home

  size_is : size ≡ product own.view.extents * width own.view.elem
  size_is = ap₂ (λ x e. product x * width e) (sym (own_extents p.home)) (sym (own_elem p.home))

  from_rows : AreRows (rows_of own.view.extents) (row_bytes own.view) (row_spot (block_seat p q)) size from_cell
  from_rows = seat_rows (block_seat p q) own.view.extents (width own.view.elem) size from_cell lined_in
      (sym (own_extents p.home)) (ap width (sym elem ∙ sym (own_elem p.home))) size_is from_is

  module _ (leaves : Leaves Cause) (to_cell : ℕ → Spot) (to_is : (k : ℕ) → k < size → to_cell k ≡ seat_cell own k) where
    to_rows : AreRows (rows_of own.view.extents) (row_bytes own.view) (row_spot own) size to_cell
    to_rows = seat_rows own own.view.extents (width own.view.elem) size to_cell own_is_lined refl refl size_is to_is

    copied_in : IsLike leaves (copy_in its) (cells.Act (cells.Copy size from_cell to_cell))
    copied_in = like_copy leaves own (block_seat p q) own size from_cell to_cell from_rows to_rows

    copied_out : IsLike leaves (copy_out its) (cells.Act (cells.Copy size to_cell from_cell))
    copied_out = like_copy leaves own own (block_seat p q) size to_cell from_cell to_rows from_rows

    bring_like : (g : Option RedOp) (m : Mode) (b : Bool) → is_moved p.home ≡ b → IsOwned g p.home
        → IsLike leaves (bring_by g m its) (lowered.bring (mode_by g p.shape.elem m) (not b) size from_cell to_cell)
    bring_like None mode.Input true e o = rw e copied_in
    bring_like None mode.Input false e o = rw e (like_skip leaves)
    bring_like None mode.Output b e o
        = like_fill leaves (pos 0) own size to_cell (λ k. 0) to_rows
        (λ k lt. zeros own.view.elem (k % width own.view.elem))
    bring_like None mode.Both true e o = rw e copied_in
    bring_like None mode.Both false e o = rw e (like_skip leaves)
    bring_like (Some op) m true e o
        = like_fill leaves (identity op own.view.elem) own size to_cell _ to_rows
        (λ k lt. identity_bytes op p.shape.elem own.view.elem k (sym (own_elem p.home)))
    bring_like (Some op) m false e o = let z = sym e ∙ o in absurd (cc)

    give_like : (g : Option RedOp) (m : Mode) (b : Bool) → is_moved p.home ≡ b → IsOwned g p.home
        → IsLike leaves (give_back_by g m its)
        (lowered.give_back (mode_by g p.shape.elem m) (not b) size to_cell from_cell)
    give_like None mode.Input b e o = like_skip leaves
    give_like None mode.Output true e o = rw e copied_out
    give_like None mode.Output false e o = rw e (like_skip leaves)
    give_like None mode.Both true e o = rw e copied_out
    give_like None mode.Both false e o = rw e (like_skip leaves)
    give_like (Some op) m true e o = subst
        (λ x. IsLike leaves (add_rows op own own (block_seat p q))
        (cells.Act (cells.Acc (record { red = op; elem = x }) size to_cell from_cell))) (own_elem p.home)
        (like_add leaves op own own (block_seat p q) size to_cell from_cell to_rows from_rows)
    give_like (Some op) m false e o = let z = sym e ∙ o in absurd (cc)

    pub brought : IsOwned p.gathers p.home
        → IsLike leaves (bring its) (lowered.bring (mode_by p.gathers p.shape.elem p.argument.mode)
        (stays (place_of p.home)) size from_cell to_cell)
    brought o = subst (λ b. IsLike leaves (bring its)
        (lowered.bring (mode_by p.gathers p.shape.elem p.argument.mode) b size from_cell to_cell))
        (sym (moved_stays p.home)) (bring_like p.gathers p.argument.mode (is_moved p.home) refl o)

    pub given : IsOwned p.gathers p.home
        → IsLike leaves (give_back its)
        (lowered.give_back (mode_by p.gathers p.shape.elem p.argument.mode) (stays (place_of p.home)) size to_cell
        from_cell)
    given o = subst (λ b. IsLike leaves (give_back its)
        (lowered.give_back (mode_by p.gathers p.shape.elem p.argument.mode) b size to_cell from_cell))
        (sym (moved_stays p.home)) (give_like p.gathers p.argument.mode (is_moved p.home) refl o)

    -- held arrays
    pub taken : p.gathers ≡ None → IsLike leaves (hold_in its)
        (lowered.take_one (mode_by p.gathers p.shape.elem p.argument.mode) true size from_cell to_cell)
    taken none = subst (λ g. IsLike leaves (hold_in its)
        (lowered.take_one (mode_by g p.shape.elem p.argument.mode) true size from_cell to_cell)) (sym none)
        (by p.argument.mode)
      where
        by : (m : Mode) → IsLike leaves (hold_in_by m its)
            (lowered.take_one (mode_by None p.shape.elem m) true size from_cell to_cell)
        by mode.Input = copied_in
        by mode.Output = like_skip leaves
        by mode.Both = copied_in

    pub left : p.gathers ≡ None → IsLike leaves (hold_out its)
        (lowered.leave_one (mode_by p.gathers p.shape.elem p.argument.mode) true size to_cell from_cell)
    left none = subst (λ g. IsLike leaves (hold_out its)
        (lowered.leave_one (mode_by g p.shape.elem p.argument.mode) true size to_cell from_cell)) (sym none)
        (by p.argument.mode)
      where
        by : (m : Mode) → IsLike leaves (hold_out_by m its)
            (lowered.leave_one (mode_by None p.shape.elem m) true size to_cell from_cell)
        by mode.Input = like_skip leaves
        by mode.Output = copied_out
        by mode.Both = copied_out
