-- Rows of copies, fills and accumulations do what the event of the whole array does.
use Rattle.std.proofs.Common.{◌≡◌, ℕ, zero, suc, ◌+◌, ◌-◌, ◌*◌, ◌<◌, ◌≤◌, Bool, true, false, cond, Some, None, refl}
use Rattle.std.proofs.Common.{sym, ap, ap₂, ◌∙◌, subst, arith, ⊎_elim}
use Rattle.std.specs.Prelude.{is_none}
use mathlib.Core.Path.{fun_ext}
use Rattle.sq_ir.specs.Tree.{Act}
use Rattle.sq_ir.specs.Runs.{End, in_turn, exec}
use Rattle.sq_ir.specs.Scopes.{Scope}
use Rattle.sq_ir.specs.Events as events
use Rattle.sq_ir.specs.Events.{Event, Copy, Fill, Accumulate, Leaves, Bytes, in_row, row, place_in, added, after_event}
use Rattle.sq_ir.specs.Events.{trap_event, meaning, AreIndependent, ShareNothing}
use Rattle.sq_ir.specs.Written.{seq_of}
use Rattle.sq_ir.proofs.Exec.{exec-seq}
use Rattle.sq_ir.proofs.Local.{in_row-numbers, numbers-in_row}
use Rattle.sq_ir.proofs.Together.{not_true}
use Rattle.sq_cells.specs.Cells.{Spot, spot, same, State, find, put_at, put}
use Rattle.sq_cells.specs.Tree.{Cause}
use Rattle.sq_cells.proofs.Cells.{same_true, same_refl}
use Rattle.sq_cells.proofs.Access.{end_or_below}
use Rattle.sq_cells.specs.Alike.{cell_of, state_of, bytes_of}
use Rattle.sq_cells.specs.Rows.{AreRows}

-- ---- events in turn

module _ (leaves : Leaves Cause) (E : ℕ → Event) where
  -- the bytes after the events below r
  abbrev pub after_rows : ℕ → Bytes → Bytes
  after_rows zero m = m
  after_rows (suc r) m = after_event leaves (E r) (after_rows r m)

  abbrev done : Bytes → End Bytes Cause
  done m = record { bytes = m; finished = true; trap = None }

  module _ (quiet : (r : ℕ) (m : Bytes) → trap_event leaves (E r) m ≡ None) where
    one_row : (k : ℕ) (m : Bytes) → exec {S = Scope} (meaning leaves) (Act (E k)) m ≡ done (after_event leaves (E k) m)
    one_row k m = ap (λ t. record { bytes = after_event leaves (E k) m; finished = is_none t; trap = t }) (quiet k m)

    from_row : (n k : ℕ) (m : Bytes) → exec (meaning leaves) (seq_of n (λ r. Act (E r)) k) (after_rows k m)
        ≡ done (after_rows (k + n) m)
    unfolding seq_of
    from_row zero k m = let e : k ≡ k + 0 = omega arith in ap (λ x. done (after_rows x m)) e
    from_row (suc n) k m =
        let e : k + 1 ≡ suc k = omega arith in
        let f : suc k + n ≡ k + suc n = omega arith in
        exec-seq (meaning leaves) (Act (E k)) (seq_of n (λ r. Act (E r)) (k + 1)) (after_rows k m)
        ∙ ap (λ r. in_turn r (λ x. exec (meaning leaves) (seq_of n (λ r. Act (E r)) (k + 1)) x))
        (one_row k (after_rows k m))
        ∙ ap (λ x. exec (meaning leaves) (seq_of n (λ r. Act (E r)) x) (after_rows (suc k) m)) e
        ∙ from_row n (suc k) m
        ∙ ap (λ x. done (after_rows x m)) f

    pub all_rows : (n : ℕ) (m : Bytes) → exec (meaning leaves) (seq_of n (λ r. Act (E r)) 0) m
        ≡ record { bytes = after_rows n m; finished = true; trap = None }
    all_rows n m = let e : 0 + n ≡ n = omega arith in from_row n 0 m
        ∙ ap (λ x. record { bytes = after_rows x m; finished = true; trap = None }) e

-- ---- the last cells of a list

module _ (c : ℕ → Spot) (val : ℕ → ℕ) (s : State) (p : Spot) where
  not_here : (k : ℕ) → (c k ≡ p → ⊥) → put (suc k) c val s p ≡ put k c val s p
  not_here k h = ap (λ b. put_at (cond b (Some k) (find k c p)) val (s p))
      (not_true (same (c k) p) (λ e. h (same_true (c k) p e)))

  here : (k : ℕ) → c k ≡ p → put (suc k) c val s p ≡ val k
  here k e = ap (λ b. put_at (cond b (Some k) (find k c p)) val (s p))
      (subst (λ q. same (c k) q ≡ true) e (same_refl (c k)))

  pub put_more : (n l : ℕ) → ((j : ℕ) → j < l → c (n + j) ≡ p → ⊥) → put (n + l) c val s p ≡ put n c val s p
  put_more n zero h = let e : n + 0 ≡ n = omega arith in ap (λ x. put x c val s p) e
  put_more n (suc l) h =
      let e : n + suc l ≡ suc (n + l) = omega arith in
      ap (λ x. put x c val s p) e ∙ not_here (n + l) (h l (omega arith)) ∙ put_more n l (λ j lt. h j (omega arith))

  pub put_last : (n l j : ℕ) → j < l → c (n + j) ≡ p → ((i : ℕ) → j < i → i < l → c (n + i) ≡ p → ⊥)
      → put (n + l) c val s p ≡ val (n + j)
  put_last n zero j lt e h = absurd (omega arith)
  put_last n (suc l) j lt e h =
      let f : n + suc l ≡ suc (n + l) = omega arith in
      ap (λ x. put x c val s p) f ∙ ⊎_elim
      (λ (q : j ≡ l). here (n + l) (subst (λ x. c (n + x) ≡ p) q e) ∙ ap (λ x. val (n + x)) (sym q))
      (λ (q : j < l). not_here (n + l) (h l q (omega arith)) ∙ put_last n l j q e (λ i a b. h i a (omega arith)))
      (end_or_below j l lt)

-- ---- rows

module _ (leaves : Leaves Cause) (E : ℕ → Event) (rows len : ℕ) (first : ℕ → events.Spot) (n : ℕ) (to : ℕ → Spot)
    (are : AreRows rows len first n to) (val : ℕ → ℕ) (m : Bytes) where
  abbrev pub So : ℕ → Type 0
  So r = (a : events.Spot) → after_rows leaves E r m a ≡ put (r * len) to val (state_of m) (cell_of a)

  abbrev InRow : ℕ → events.Spot → Bool
  InRow r a = in_row (first r).node (first r).at len a

  -- a byte of a row is the cell with its number
  pub row_cell : (r : ℕ) → r < rows → (a : events.Spot) → InRow r a ≡ true → to (r * len + (a.at - (first r).at))
      ≡ cell_of a
  row_cell r lt a i =
      let p = in_row-numbers (first r).node (first r).at len a i in
      are.at r (a.at - (first r).at) lt (omega (arith, p.from, p.below)) ∙ ap₂ spot (sym p.same) (omega (arith, p.from))

  -- and a cell of a row is a byte of it
  cell_row : (r j : ℕ) → r < rows → j < len → (a : events.Spot) → to (r * len + j) ≡ cell_of a → (InRow r a ≡ true)
      × (a.at - (first r).at ≡ j)
  cell_row r j lt lj a e =
      let f = sym (are.at r j lt lj) ∙ e in
      let g : (first r).node ≡ a.node = ap (λ (x : Spot). x.area) f in
      let h : (first r).at + j ≡ a.at = ap (λ (x : Spot). x.index) f in
      (numbers-in_row (first r).node (first r).at len a (sym g) (omega (arith, h)) (omega (arith, h)), omega (arith, h))

  module _ (set : (r : ℕ) → r < rows → So r → (a : events.Spot) → InRow r a ≡ true
      → after_event leaves (E r) (after_rows leaves E r m) a ≡ val (r * len + (a.at - (first r).at)))
      (stay : (r : ℕ) → r < rows → (x : Bytes) (a : events.Spot) → InRow r a ≡ false → after_event leaves (E r) x a
      ≡ x a) where
    rows_put : (r : ℕ) → r ≤ rows → So r
    rows_put zero le a = let e : 0 ≡ 0 * len = omega arith in ap (λ x. put x to val (state_of m) (cell_of a)) e
    rows_put (suc r) le a = by (rows_put r (omega arith)) (InRow r a) refl
      where
        next : r * len + len ≡ suc r * len
        next = omega arith

        by : So r → (b : Bool) → InRow r a ≡ b → after_event leaves (E r) (after_rows leaves E r m) a
            ≡ put (suc r * len) to val (state_of m) (cell_of a)
        by so true i =
            let p = in_row-numbers (first r).node (first r).at len a i in
            set r (omega arith) so a i ∙ sym
            (put_last to val (state_of m) (cell_of a) (r * len) len (a.at - (first r).at)
            (omega (arith, p.from, p.below)) (row_cell r (omega arith) a i)
            (λ k lo hi e. let c = cell_row r k (omega arith) hi a e in omega (arith, lo, c.1)))
            ∙ ap (λ x. put x to val (state_of m) (cell_of a)) next
        by so false i =
            stay r (omega arith) (after_rows leaves E r m) a i ∙ so a
            ∙ sym (put_more to val (state_of m) (cell_of a) (r * len) len
            (λ j lj e. let c = cell_row r j (omega arith) lj a e in let z = sym i ∙ c.0 in cc))
            ∙ ap (λ x. put x to val (state_of m) (cell_of a)) next

    pub rows_done : (quiet : (r : ℕ) (x : Bytes) → trap_event leaves (E r) x ≡ None)
        → exec (meaning leaves) (seq_of rows (λ r. Act (E r)) 0) m
        ≡ record { bytes = bytes_of (put n to val (state_of m)); finished = true; trap = None }
    rows_done quiet =
        all_rows leaves E quiet rows m
        ∙ ap (λ x. record { bytes = x; finished = true; trap = None })
        (fun_ext (λ a. rows_put rows (omega arith) a ∙ ap (λ x. put x to val (state_of m) (cell_of a)) (sym are.size)))

pub within_rows : (len rows r j : ℕ) → r < rows → j < len → r * len + j < rows * len
within_rows len zero r j lt lj = absurd (omega arith)
within_rows len (suc rows) r j lt lj
    = ⊎_elim (λ (e : r ≡ rows). subst (λ x. x * len + j < suc rows * len) (sym e) (omega (arith, lj)))
    (λ (l : r < rows). let h = within_rows len rows r j l lj in omega (arith, h)) (end_or_below r rows lt)

-- a byte of a row, as a cell of the array
module _ (rows len : ℕ) (first : ℕ → events.Spot) (n : ℕ) (c : ℕ → Spot) (are : AreRows rows len first n c) where
  pub below_n : (r j : ℕ) → r < rows → j < len → r * len + j < n
  below_n r j lt lj = subst (λ x. r * len + j < x) (sym are.size) (within_rows len rows r j lt lj)

  pub row_number : (r : ℕ) → r < rows → (a : events.Spot) → in_row (first r).node (first r).at len a ≡ true → (k : ℕ)
      × (k < n) × (c k ≡ cell_of a) × (k ≡ r * len + (a.at - (first r).at))
  row_number r lt a i =
      let p = in_row-numbers (first r).node (first r).at len a i in
      let lj : a.at - (first r).at < len = omega (arith, p.from, p.below) in (
        r * len + (a.at - (first r).at),
        below_n r (a.at - (first r).at) lt lj,
        are.at r (a.at - (first r).at) lt lj
            ∙ ap₂ spot (sym p.same) (omega (arith, p.from)),
        refl,
      )
