-- Copies, fills and accumulations by rows are like the event of the whole array.
use Rattle.std.proofs.Common.{◌≡◌, ℕ, suc, ◌+◌, ◌-◌, ◌*◌, ◌/◌, ◌%◌, ◌<◌, true, length, get_or, refl, sym, ap, ap₂, ◌∙◌}
use Rattle.std.proofs.Common.{subst, arith, ℤ}
use Rattle.std.specs.Prelude.{reverse}
use Rattle.std.proofs.lemmas.List.{ext_get_or, length-reverse, get_or-reverse}
use Rattle.std.proofs.Math.Nat.{mod-le, mul_assoc, mul-add-mod_self_right}
use Rattle.std.proofs.lemmas.Nat.{div-add-mod'}
use Rattle.sq_num.specs.declared.Elem.{Elem}
use Rattle.sq_num.specs.declared.RedOp.{RedOp}
use Rattle.sq_num.specs.Elements.{width, cell}
use Rattle.sq_ir.specs.Tree.{Act}
use Rattle.sq_ir.specs.Events as events
use Rattle.sq_ir.specs.Events.{Event, Copy, Fill, Accumulate, Leaves, Bytes, in_row, row, place_in, combined, added}
use Rattle.sq_ir.specs.Events.{after_event, meaning, AreIndependent, ShareNothing}
use Rattle.sq_ir.proofs.Parts.{all-seq_of, unordered-seq_of}
use Rattle.sq_ir.proofs.Local.{in_row-numbers, numbers-in_row, pick-true, pick-false, element-inside}
use Rattle.sq_ir.proofs.Together.{not_true, length-row, get_or-row}
use Rattle.sq_cells.specs.Machine.{Op}
use Rattle.sq_cells.specs.Cells.{Spot, spot, table}
use Rattle.sq_cells.specs.Tree as cells
use Rattle.sq_cells.specs.Tree.{Cause, width_of, red_of, element, summed, head_of}
use Rattle.sq_cells.proofs.Cells.{put_out}
use Rattle.sq_cells.proofs.AnyOrder.{length-table, get-table}
use Rattle.sq_cells.specs.Alike.{cell_of, state_of, IsOf, MayRun, IsLike}
use Rattle.sq_cells.specs.Rows.{AreRows, copies, fills, sums}
use Rattle.sq_cells.proofs.Combine.{count_none}
use Rattle.sq_cells.proofs.Rows.{after_rows, rows_done, So, below_n, row_number}

-- ---- copies

module _ (leaves : Leaves Cause) (rows len : ℕ) (f g : ℕ → events.Spot) (n : ℕ) (source to : ℕ → Spot)
    (from_rows : AreRows rows len f n source) (to_rows : AreRows rows len g n to) where
  pub like_copies : IsLike leaves (copies rows len f g) (cells.Act (cells.Copy n source to))
  like_copies = record {
    does = λ apart m. rows_done leaves (λ r. Copy (f r) (g r) len) rows len g n to to_rows (λ k. state_of m (source k))
        m
        (λ r lt so a i.
        let p = in_row-numbers (g r).node (g r).at len a i in
        let j = a.at - (g r).at in
        let lj : j < len = omega (arith, p.from, p.below) in
        pick-true (in_row (g r).node (g r).at len a) _ _ _ i
        (so (record { node = (f r).node; at = (f r).at + j })
        ∙ put_out (r * len) to (λ k. state_of m (source k)) (state_of m) (spot (f r).node ((f r).at + j))
        (λ k lk e. apart k (r * len + j) (omega (arith, lk, below_n rows len g n to to_rows r j lt lj))
        (below_n rows len f n source from_rows r j lt lj) (e ∙ sym (from_rows.at r j lt lj)))
        ∙ ap (state_of m) (sym (from_rows.at r j lt lj))))
        (λ r lt x a i. pick-false (in_row (g r).node (g r).at len a) _ _ _ i refl)
        (λ r x. refl);
    events = all-seq_of (IsOf leaves (cells.Act (cells.Copy n source to))) rows (λ r. Act (Copy (f r) (g r) len)) 0
        (λ r lo lt. (
          λ a i. let q = row_number rows len g n to to_rows r (omega (arith, lt)) a i in (q.0, q.1, q.2),
          λ a i. let q
              = row_number rows len f n source from_rows r (omega (arith, lt)) a i in (q.0, q.1, q.2),
        ));
    safe = λ free paths. unordered-seq_of (AreIndependent leaves) rows (λ r. Act (Copy (f r) (g r) len)) 0
        (λ r lo lt. tt);
    may = λ apart. all-seq_of (MayRun leaves) rows (λ r. Act (Copy (f r) (g r) len)) 0 (λ r lo lt a i. not_true _ (λ j.
        let q = row_number rows len f n source from_rows r (omega (arith, lt)) a i in
        let q' = row_number rows len g n to to_rows r (omega (arith, lt)) a j in
        apart q'.0 q.0 q'.1 q.1 (q'.2 ∙ sym q.2)));
    counted = λ x. count_none x rows (λ r. Act (Copy (f r) (g r) len)) 0 (λ i. refl);
  }

-- the place of a byte in its element, in all rows
place_same : (r count w j : ℕ) → (r * (count * w) + j) % w ≡ j % w
place_same r count w j = ap (λ x. (x + j) % w) (sym (mul_assoc r count w)) ∙ mul-add-mod_self_right (r * count) w j

-- ---- fills

module _ (leaves : Leaves Cause) (rows : ℕ) (elem : Elem) (count : ℕ) (v : ℤ) (g : ℕ → events.Spot) (n : ℕ)
    (to : ℕ → Spot) (to_rows : AreRows rows (count * width elem) g n to) (val : ℕ → ℕ)
    (vals : (k : ℕ) → k < n → val k ≡ get_or (cell elem v) (k % width elem) 0) where
  pub like_fills : IsLike leaves (fills rows elem count v g) (cells.Act (cells.Fill n val to))
  like_fills = record {
    does = λ fits m. rows_done leaves (λ r. Fill (g r) elem count v) rows (count * width elem) g n to to_rows val m
        (λ r lt so a i.
        let p = in_row-numbers (g r).node (g r).at (count * width elem) a i in
        let j = a.at - (g r).at in
        let lj : j < count * width elem = omega (arith, p.from, p.below) in
        pick-true (in_row (g r).node (g r).at (count * width elem) a) _ _ _ i
        (sym (vals (r * (count * width elem) + j) (below_n rows (count * width elem) g n to to_rows r j lt lj)
        ∙ ap (λ x. get_or (cell elem v) x 0) (place_same r count (width elem) j))))
        (λ r lt x a i. pick-false (in_row (g r).node (g r).at (count * width elem) a) _ _ _ i refl)
        (λ r x. refl);
    events = all-seq_of (IsOf leaves (cells.Act (cells.Fill n val to))) rows (λ r. Act (Fill (g r) elem count v)) 0
        (λ r lo lt a i. let q = row_number rows (count * width elem) g n to to_rows r (omega (arith, lt)) a i in
        (q.0, q.1, q.2));
    safe = λ free paths. unordered-seq_of (AreIndependent leaves) rows (λ r. Act (Fill (g r) elem count v)) 0
        (λ r lo lt. tt);
    may = λ fits. all-seq_of (MayRun leaves) rows (λ r. Act (Fill (g r) elem count v)) 0 (λ r lo lt. tt);
    counted = λ x. count_none x rows (λ r. Act (Fill (g r) elem count v)) 0 (λ i. refl);
  }

-- ---- accumulations

-- a row of a memory as the bytes of an element, last one first
row_table : (x : Bytes) (node at w : ℕ) (h : ℕ → ℕ) → ((i : ℕ) → i < w → x (record { node = node; at = at + i }) ≡ h i)
    → row x node at w ≡ reverse (table w h)
row_table x node at w h each =
    let l = table w h in
    let len : length l ≡ w = length-table w h in
    ext_get_or 0 (row x node at w) (reverse l) (length-row x node at w ∙ sym (length-reverse l ∙ len)) (λ i lt.
    let below : i < w = subst (λ k. i < k) (length-row x node at w) lt in
    let e : w - suc (length l - 1 - i) ≡ i = omega (arith, len, below) in
    get_or-row x node at w i below ∙ each i below
    ∙ sym (get_or-reverse l i 0 (subst (λ k. i < k) (sym len) below)
    ∙ get-table w h (length l - 1 - i) (omega (arith, len, below)) ∙ ap h e))

module _ (leaves : Leaves Cause) (rows : ℕ) (op : RedOp) (elem : Elem) (count : ℕ) (f g : ℕ → events.Spot) (n : ℕ)
    (source to : ℕ → Spot) (from_rows : AreRows rows (count * width elem) f n source)
    (to_rows : AreRows rows (count * width elem) g n to) where
  abbrev its : Op
  its = record { red = op; elem = elem }

  abbrev len : ℕ
  len = count * width elem

  -- the bytes of the element of byte j of row r
  head_is : (r j : ℕ) → (r * len + j) / width elem * width elem ≡ r * len + (j - j % width elem)
  head_is r j =
      let a = div-add-mod' (r * len + j) (width elem) in
      let b = place_same r count (width elem) j in
      let c = mod-le j (width elem) in
      omega (arith, a, b, c)

  module _ (m : Bytes) (apart : (j k : ℕ) → j < n → k < n → to j ≡ source k → ⊥)
      (once : (j k : ℕ) → j < n → k < n → to j ≡ to k → j ≡ k) (r : ℕ) (lt : r < rows) where
    abbrev val : ℕ → ℕ
    val = summed its (λ k. state_of m (to k)) (λ k. state_of m (source k))

    abbrev x : Bytes
    x = after_rows leaves (λ r. Accumulate op elem (f r) (g r) count) r m

    module _ (so : So leaves (λ r. Accumulate op elem (f r) (g r) count) rows len g n to to_rows val m r) where
      -- bytes of this row's target, and of its source, are as at the start
      old_to : (j : ℕ) → j < len → x (record { node = (g r).node; at = (g r).at + j }) ≡ state_of m (to (r * len + j))
      old_to j lj =
          so (record { node = (g r).node; at = (g r).at + j })
          ∙ put_out (r * len) to val (state_of m) (spot (g r).node ((g r).at + j)) (λ k lk e.
          let z = once k (r * len + j) (omega (arith, lk, below_n rows len g n to to_rows r j lt lj))
          (below_n rows len g n to to_rows r j lt lj) (e ∙ sym (to_rows.at r j lt lj)) in omega (arith, z, lk))
          ∙ ap (state_of m) (sym (to_rows.at r j lt lj))

      old_from : (j : ℕ) → j < len → x (record { node = (f r).node; at = (f r).at + j })
          ≡ state_of m (source (r * len + j))
      old_from j lj =
          so (record { node = (f r).node; at = (f r).at + j })
          ∙ put_out (r * len) to val (state_of m) (spot (f r).node ((f r).at + j)) (λ k lk e.
          apart k (r * len + j) (omega (arith, lk, below_n rows len g n to to_rows r j lt lj))
          (below_n rows len f n source from_rows r j lt lj) (e ∙ sym (from_rows.at r j lt lj)))
          ∙ ap (state_of m) (sym (from_rows.at r j lt lj))

      set : (a : events.Spot) → in_row (g r).node (g r).at len a ≡ true
          → added op elem (f r) (g r) x (place_in elem (g r).at a) a ≡ val (r * len + (a.at - (g r).at))
      unfolding red_of width_of
      set a i =
          let w = width elem in
          let p = in_row-numbers (g r).node (g r).at len a i in
          let j = a.at - (g r).at in
          let k = r * len + j in
          let pl = j % w in
          let le = mod-le j w in
          let hd = head_is r j in
          let inside : (b : ℕ) → b < w → j - pl + b < len = λ b lb.
          let q = in_row-numbers (g r).node (g r).at len (record { node = a.node; at = (a.at - pl) + b })
          (element-inside (g r).node (g r).at count elem a (record { node = a.node; at = (a.at - pl) + b }) i
          (numbers-in_row (g r).node (a.at - pl) w (record { node = a.node; at = (a.at - pl) + b }) p.same
          (omega arith) (omega (arith, lb)))) in
          omega (arith, q.from, q.below, p.from, le) in
          let target : row x a.node (a.at - pl) w ≡ reverse (element w (λ k. state_of m (to k)) (k / w)) =
          row_table x a.node (a.at - pl) w (λ b. state_of m (to (k / w * w + b))) (λ b lb.
          let e : (a.at - pl) + b ≡ (g r).at + (j - pl + b) = omega (arith, p.from, le) in
          let h : r * len + (j - pl + b) ≡ k / w * w + b = omega (arith, hd) in
          ap₂ (λ u v. x (record { node = u; at = v })) p.same e ∙ old_to (j - pl + b) (inside b lb)
          ∙ ap (λ y. state_of m (to y)) h) in
          let origin : row x (f r).node ((f r).at + j - pl) w ≡ reverse (element w (λ k. state_of m (source k)) (k / w))
          =
          row_table x (f r).node ((f r).at + j - pl) w (λ b. state_of m (source (k / w * w + b))) (λ b lb.
          let e : ((f r).at + j - pl) + b ≡ (f r).at + (j - pl + b) = omega (arith, le) in
          let h : r * len + (j - pl + b) ≡ k / w * w + b = omega (arith, hd) in
          ap (λ v. x (record { node = (f r).node; at = v })) e ∙ old_from (j - pl + b) (inside b lb)
          ∙ ap (λ y. state_of m (source y)) h) in
          ap₂ (λ u v. get_or (combined op elem u v) pl 0) target origin
          ∙ ap (λ b. get_or (combined op elem (reverse (element w (λ k. state_of m (to k)) (k / w)))
          (reverse (element w (λ k. state_of m (source k)) (k / w)))) b 0) (sym (place_same r count w j))

  -- the element of a byte of a target
  adds : (r : ℕ) → r < rows → (a : events.Spot) → in_row (g r).node (g r).at len a ≡ true
      → cells.Adds (cells.Act (cells.Acc its n source to))
      (record { op = its; head = spot a.node (a.at - place_in elem (g r).at a) }) (cell_of a)
  unfolding width_of
  adds r lt a i =
      let w = width elem in
      let p = in_row-numbers (g r).node (g r).at len a i in
      let j = a.at - (g r).at in
      let q = row_number rows len g n to to_rows r lt a i in
      let le = mod-le j w in
      let hd = head_is r j in
      let lj : j < len = omega (arith, p.from, p.below) in
      let e : q.0 / w * w ≡ r * len + (j - j % w) = ap (λ k. k / w * w) q.3 ∙ hd in
      let z : (g r).at + (j - j % w) ≡ a.at - j % w = omega (arith, p.from, le) in
      (refl, (q.0, q.1, q.2, ap to e ∙ to_rows.at r (j - j % w) lt (omega (arith, lj, le)) ∙ ap₂ spot (sym p.same) z))

  pub like_sums : IsLike leaves (sums rows op elem count f g) (cells.Act (cells.Acc its n source to))
  like_sums = record {
    does = λ fits m. rows_done leaves (λ r. Accumulate op elem (f r) (g r) count) rows len g n to to_rows
        (summed its (λ k. state_of m (to k)) (λ k. state_of m (source k))) m
        (λ r lt so a i. pick-true (in_row (g r).node (g r).at len a) _ _ _ i (set m fits.0 fits.1 r lt so a i))
        (λ r lt x a i. pick-false (in_row (g r).node (g r).at len a) _ _ _ i refl)
        (λ r x. refl);
    events = all-seq_of (IsOf leaves (cells.Act (cells.Acc its n source to))) rows
        (λ r. Act (Accumulate op elem (f r) (g r) count)) 0
        (λ r lo lt. (
          adds r (omega (arith, lt)),
          λ a i. let q
              = row_number rows len f n source from_rows r (omega (arith, lt)) a i in (q.0, q.1, q.2),
        ));
    safe = λ free paths. unordered-seq_of (AreIndependent leaves) rows (λ r. Act (Accumulate op elem (f r) (g r) count))
        0 (λ r lo lt. tt);
    may = λ fits. all-seq_of (MayRun leaves) rows (λ r. Act (Accumulate op elem (f r) (g r) count)) 0
        (λ r lo lt a i. not_true _ (λ j.
        let q = row_number rows len f n source from_rows r (omega (arith, lt)) a i in
        let q' = row_number rows len g n to to_rows r (omega (arith, lt)) a j in
        fits.0 q'.0 q.0 q'.1 q.1 (q'.2 ∙ sym q.2)));
    counted = λ x. count_none x rows (λ r. Act (Accumulate op elem (f r) (g r) count)) 0 (λ i. refl);
  }
