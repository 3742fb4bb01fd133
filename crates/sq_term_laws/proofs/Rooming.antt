-- Views end inside their buffers: buffers, blocks, and rows.
use Rattle.std.proofs.Common.{◌≡◌, ℕ, suc, ◌+◌, ◌*◌, ◌/◌, ◌%◌, ◌<◌, ◌≤◌, pos, List, map, sym, ap, subst, ◌∙◌, arith}
use Rattle.std.proofs.Math.Nat.{mod-lt, div-lt_iff_lt-mul}
use Rattle.std.specs.Prelude.{nat_abs}
use Rattle.sq_num.specs.declared.Elem.{Elem}
use Rattle.sq_num.specs.declared.Elem.TheVariants.{Byte, Int, Long}
use Rattle.std.proofs.lemmas.Int.{ints}
use Rattle.sq_num.specs.Elements.{width, IsValue, least, greatest}
use Rattle.sq_rect.specs.Extents.{last_of, rows_of}
use Rattle.sq_rect.specs.Placing.{offset}
use Rattle.sq_ir.specs.Leaf.declared.shape.Shape.{Shape}
use Rattle.sq_ir.specs.Lifting.{lift}
use Rattle.sq_ir.specs.Written.{Setting, Env, value_of, at_turn}
use Rattle.sq_ir.specs.Plans.{HasValue}
use Rattle.sq_ir.specs.declared.num.Num.TheVariants as n
use Rattle.sq_ir.specs.declared.term.LeafView.{LeafView}
use Rattle.sq_placed.specs.Seats.{row_first}
use Rattle.sq_term.specs.Terms.{row_num, row_slot}
use Rattle.sq_term_laws.specs.Roomy.{InRow, IsLined, one, two, three, AreSmall, IsRoomy, HaveSizes}
use Rattle.sq_term.proofs.Numbers.{const_is, index_is, add_is, mul_is, div_is, rem_is, lifted_is}
use Rattle.sq_term.proofs.Rows.{row_num_is}
use Rattle.sq_term_laws.proofs.Fine.{less_fits, zero_fits, const_has, add_has, mul_has, div_has, rem_has, turn_has}
use Rattle.sq_term_laws.proofs.Fine.{has_lifted, count_is}
use Rattle.sq_term_laws.proofs.Fitting.{times_le}

pub eight_fits : IsValue Long (pos 8)
unfolding least greatest
eight_fits = record { low = omega (arith, ints); high = omega (arith, ints) }

-- ---- rows

last_in : (ss tops : List ℕ) → IsLined ss tops → (r : ℕ) → r < rows_of (map suc tops)
    → offset ss (row_first (map suc tops) r) + last_of (map suc tops) ≤ suc (offset ss tops)
last_in ss tops (one a) r l = omega arith
last_in ss tops (two x a b) r l = let g = times_le r x a x (omega (arith, l)) (omega arith) in omega (arith, g)
last_in ss tops (three x y a b c) r l =
    let q : r / suc b < suc a = (div-lt_iff_lt-mul (omega arith)).1
    (let e : suc a * (suc b * 1) ≡ suc a * suc b = ap (λ z. suc a * z) (omega arith) in subst (λ z. r < z) e l) in
    let m = mod-lt r (let z : 0 < suc b = omega arith in z) in
    let g = times_le (r / suc b) x a x (omega (arith, q)) (omega arith) in
    let h = times_le (r % suc b) y b y (omega (arith, m)) (omega arith) in
    omega (arith, g, h)

module _ (s : Setting) (env : Env) (r : ℕ) where
  row_has : (ss tops : List ℕ) → IsLined ss tops → r < rows_of (map suc tops) → AreSmall ss
      → IsValue Long (pos (rows_of (map suc tops))) → IsValue Long (pos (offset ss tops))
      → HasValue s (row_num ss (map suc tops)) (at_turn env r)
  row_has ss tops (one a) l small rows far = const_has s (at_turn env r) (pos 0) zero_fits
  row_has ss tops (two x a b) l small rows far =
      let g = times_le r x a x (omega (arith, l)) (omega arith) in
      mul_has s (at_turn env r) (n.Index 0) (n.Const (pos x)) r x (index_is s (at_turn env r) 0)
      (const_is s (at_turn env r) (pos x)) (turn_has s env r (less_fits r _ (omega (arith, l)) rows))
      (const_has s (at_turn env r) (pos x) small.0)
      (less_fits (r * x) _ (omega (arith, g)) far)
  row_has ss tops (three x y a b c) l small rows far =
      let e = at_turn env r in
      let q : r / suc b < suc a = (div-lt_iff_lt-mul (omega arith)).1
      (let e : suc a * (suc b * 1) ≡ suc a * suc b = ap (λ z. suc a * z) (omega arith) in subst (λ z. r < z) e l) in
      let m = mod-lt r (let z : 0 < suc b = omega arith in z) in
      let g = times_le (r / suc b) x a x (omega (arith, q)) (omega arith) in
      let h = times_le (r % suc b) y b y (omega (arith, m)) (omega arith) in
      let row = turn_has s env r (less_fits r _ (omega (arith, l)) rows) in
      let wide = times_le 1 (suc b) (suc a) (suc b * 1) (omega arith) (omega arith) in
      let many : IsValue Long (pos (suc b)) = less_fits (suc b) _ (omega (arith, wide)) rows in
      let by = const_has s e (pos (suc b)) many in
      let div = div_is s e (n.Index 0) (n.Const (pos (suc b))) r (suc b) (index_is s e 0) (const_is s e (pos (suc b)))
      in
      let rem = rem_is s e (n.Index 0) (n.Const (pos (suc b))) r (suc b) (index_is s e 0) (const_is s e (pos (suc b)))
      in
      let high = less_fits (suc a) _
      (let z = times_le (suc a) 1 (suc a) (suc b * 1) (omega arith) (omega arith) in omega (arith, z)) rows in
      add_has s e (n.Mul (n.Div (n.Index 0) (n.Const (pos (suc b)))) (n.Const (pos x)))
      (n.Mul (n.Rem (n.Index 0) (n.Const (pos (suc b)))) (n.Const (pos y))) (r / suc b * x) (r % suc b * y)
      (mul_is s e (n.Div (n.Index 0) (n.Const (pos (suc b)))) (n.Const (pos x)) (r / suc b) x div
      (const_is s e (pos x)))
      (mul_is s e (n.Rem (n.Index 0) (n.Const (pos (suc b)))) (n.Const (pos y)) (r % suc b) y rem
      (const_is s e (pos y)))
      (mul_has s e (n.Div (n.Index 0) (n.Const (pos (suc b)))) (n.Const (pos x)) (r / suc b) x div
      (const_is s e (pos x))
      (div_has s e (n.Index 0) (n.Const (pos (suc b))) r (suc b) (index_is s e 0) (const_is s e (pos (suc b))) row by
      (omega arith) (less_fits (r / suc b) (suc a) (omega (arith, q)) high))
      (const_has s e (pos x) small.0) (less_fits (r / suc b * x) _ (omega (arith, g)) far))
      (mul_has s e (n.Rem (n.Index 0) (n.Const (pos (suc b)))) (n.Const (pos y)) (r % suc b) y rem
      (const_is s e (pos y))
      (rem_has s e (n.Index 0) (n.Const (pos (suc b))) (suc b) (const_is s e (pos (suc b))) row by (omega arith))
      (const_has s e (pos y) small.1.0) (less_fits (r % suc b * y) _ (omega (arith, h)) far))
      (less_fits (r / suc b * x + r % suc b * y) _ (omega (arith, g, h)) far)

width_fits : (e : Elem) → IsValue Long (pos 8) → IsValue Long (pos (width e))
width_fits Byte h = less_fits 1 8 (omega arith) h
width_fits Int h = less_fits 4 8 (omega arith) h
width_fits Long h = h

some_width : (e : Elem) → 1 ≤ width e
some_width Byte = omega arith
some_width Int = omega arith
some_width Long = omega arith

sums_le : (w f l o : ℕ) → f + l ≤ suc o → w * f + w * l ≤ w * suc o
sums_le w f l o h = let g = times_le w (f + l) w (suc o) (omega arith) h in let e : w * (f + l) ≡ w * f + w * l
    = omega arith in omega (arith, g, e)

module _ (s : Setting) (sizes : HaveSizes s) (env : Env) where
  -- a row of a view
  pub row_inside : (v : LeafView) (x : Shape) → IsRoomy s env.turns v x → IsValue Long (pos 8) → (r : ℕ) → r
      < rows_of v.extents → InRow s (at_turn env r) (row_slot v) (width v.elem * last_of v.extents)
  row_inside v x h eight r l = record {
    at = count_is s (at_turn env r) (row_slot v).at (h.bytes + width v.elem * far) value has;
    inside = let e = ap nat_abs value in omega (arith, e, ends);
  }
    where
      exts : v.extents ≡ map suc h.tops
      exts = h.extents ∙ h.shaped.last

      far : ℕ
      far = offset v.strides (row_first v.extents r)

      under : far + last_of v.extents ≤ suc (offset v.strides h.tops)
      under = subst (λ (z : List ℕ). offset v.strides (row_first z r) + last_of z ≤ suc (offset v.strides h.tops))
          (sym exts) (last_in v.strides h.tops h.lined r (subst (λ (z : List ℕ). r < rows_of z) exts l))

      ends : h.bytes + width v.elem * far + width v.elem * last_of v.extents ≤ s.size v.slot.buffer
      ends = let g = sums_le (width v.elem) far (last_of v.extents) (offset v.strides h.tops) under in let i
          = h.inside in omega (arith, g, i)

      apart : offset v.strides h.tops ≤ width v.elem * suc (offset v.strides h.tops)
      apart = let g = times_le 1 (suc (offset v.strides h.tops)) (width v.elem) (suc (offset v.strides h.tops))
          (some_width v.elem) (omega arith) in omega (arith, g)

      mul_value : value_of s (n.Mul (n.Const (pos (width v.elem))) (row_num v.strides v.extents)) (at_turn env r)
          ≡ pos (width v.elem * far)
      mul_value = mul_is s (at_turn env r) (n.Const (pos (width v.elem))) (row_num v.strides v.extents) (width v.elem)
          far (const_is s (at_turn env r) (pos (width v.elem))) (row_num_is s env r v.strides v.extents)

      lifted : value_of s (lift 1 v.slot.at) (at_turn env r) ≡ pos h.bytes
      lifted = (lifted_is s env.turns v.slot.at h.bytes r h.number).value env.level env.nodes

      value : value_of s (row_slot v).at (at_turn env r) ≡ pos (h.bytes + width v.elem * far)
      value = add_is s (at_turn env r) (lift 1 v.slot.at)
          (n.Mul (n.Const (pos (width v.elem))) (row_num v.strides v.extents)) h.bytes (width v.elem * far) lifted
          mul_value

      row_num_has : HasValue s (row_num v.strides v.extents) (at_turn env r)
      row_num_has = subst (λ (z : List ℕ). HasValue s (row_num v.strides z) (at_turn env r)) (sym exts)
          (row_has s env r v.strides h.tops h.lined (subst (λ (z : List ℕ). r < rows_of z) exts l) h.strides
          (subst (λ (z : List ℕ). IsValue Long (pos (rows_of z))) h.shaped.last h.shaped.rows)
          (less_fits (offset v.strides h.tops) (s.size v.slot.buffer)
          (let i = h.inside in let a = apart in omega (arith, i, a)) (sizes.each v.slot.buffer)))

      has : HasValue s (row_slot v).at (at_turn env r)
      has = add_has s (at_turn env r) (lift 1 v.slot.at)
          (n.Mul (n.Const (pos (width v.elem))) (row_num v.strides v.extents)) h.bytes (width v.elem * far) lifted
          mul_value
          ((has_lifted s env.turns v.slot.at r h.has).has env.level env.nodes)
          (mul_has s (at_turn env r) (n.Const (pos (width v.elem))) (row_num v.strides v.extents) (width v.elem) far
          (const_is s (at_turn env r) (pos (width v.elem))) (row_num_is s env r v.strides v.extents)
          (const_has s (at_turn env r) (pos (width v.elem)) (width_fits v.elem eight)) row_num_has
          (less_fits (width v.elem * far) (s.size v.slot.buffer) (omega (arith, ends)) (sizes.each v.slot.buffer)))
          (less_fits (h.bytes + width v.elem * far) (s.size v.slot.buffer) (omega (arith, ends))
          (sizes.each v.slot.buffer))
