-- Indices that lie inside their extents, and what they come to.
use Rattle.std.proofs.Common.{◌≡◌, ℕ, zero, suc, ◌+◌, ◌-◌, ◌*◌, ◌^◌, ◌<◌, ◌≤◌, Bool, Option, Some, None, ℤ, pos, negsuc, ◌+ℤ◌, ◌-ℤ◌, ◌*ℤ◌, ◌≤ℤ◌, ◌<ℤ◌, w64, FitsSigned, to_z, of_z, sym, ◌∙◌, ap, subst, arith, if◌then◌else◌}
use Rattle.std.proofs.lemmas.Bool.{lt-ltb}
use Rattle.std.proofs.lemmas.Int.{ints, int_wrap_fits, int_wrap-add_right, to_z-of_z, to_z_pos}
use native.Mathlib.Nat.{mul-le-mul, mul-le-mul_left, mul-le-mul_right}
use Rattle.sq_leaf.specs.Numbers.{wrapped}
use Rattle.sq_leaf.specs.Places.{along}
use Rattle.sq_columns.specs.Lines.{moved, IsSpot}

-- between its first and its last number a ramp stays between them
between : (a d : ℤ) (j m e : ℕ) → j ≤ m → pos 0 ≤ℤ a → a <ℤ pos e → pos 0 ≤ℤ (a +ℤ d *ℤ pos m) → (a +ℤ d *ℤ pos m) <ℤ pos e → (pos 0 ≤ℤ (a +ℤ d *ℤ pos j)) × ((a +ℤ d *ℤ pos j) <ℤ pos e)
between a (pos k) j m e h low high last_low last_high = let more = mul-le-mul_left k h in (omega (arith, ints, more), omega (arith, ints, more))
between a (negsuc k) j m e h low high last_low last_high = let more = mul-le-mul_left (suc k) h in (omega (arith, ints, more), omega (arith, ints, more))

not_cut : (x : ℤ) (e : ℕ) → e < 2 ^ 32 → pos 0 ≤ℤ x → x <ℤ pos e → wrapped x ≡ x
not_cut x e small low high = int_wrap_fits w64 x (omega (arith, ints))

pub inside_ramp : (a d : ℤ) (j n e : ℕ) → j < n → e < 2 ^ 32 → pos 0 ≤ℤ a → a <ℤ pos e → pos 0 ≤ℤ (a +ℤ d *ℤ (pos n -ℤ pos 1)) → (a +ℤ d *ℤ (pos n -ℤ pos 1)) <ℤ pos e
    → (pos 0 ≤ℤ (wrapped (a +ℤ d *ℤ pos j))) × ((wrapped (a +ℤ d *ℤ pos j)) <ℤ pos e)
inside_ramp a d j zero e below small low high last_low last_high = absurd (omega arith)
inside_ramp a d j (suc m) e below small low high last_low last_high =
    let last : pos (suc m) -ℤ pos 1 ≡ pos m = omega (arith, ints) in
    let b = between a d j m e (omega arith) low high (subst (λ (z : ℤ). pos 0 ≤ℤ (a +ℤ d *ℤ z)) last last_low) (subst (λ (z : ℤ). (a +ℤ d *ℤ z) <ℤ pos e) last last_high) in
    let same = sym (not_cut (a +ℤ d *ℤ pos j) e small b.0 b.1) in
    (subst (λ (z : ℤ). pos 0 ≤ℤ z) same b.0, subst (λ (z : ℤ). z <ℤ pos e) same b.1)

small_times : (d : ℤ) (n : ℕ) → negsuc 4294967295 ≤ℤ d → d ≤ℤ pos 4294967296 → n ≤ 256 → (negsuc 2199023255552 ≤ℤ (d *ℤ (pos n -ℤ pos 1))) × ((d *ℤ (pos n -ℤ pos 1)) ≤ℤ pos 2199023255552)
small_times d zero low high few = (omega (arith, ints), omega (arith, ints))
small_times (pos k) (suc m) low high few =
    let k_few : k ≤ 4294967296 = omega (arith, ints) in
    let m_few : m ≤ 255 = omega arith in
    let last : pos (suc m) -ℤ pos 1 ≡ pos m = omega (arith, ints) in
    let most = mul-le-mul k_few m_few in
    rw last (omega (arith, ints, most), omega (arith, ints, most))
small_times (negsuc k) (suc m) low high few =
    let k_few : suc k ≤ 4294967296 = omega (arith, ints) in
    let m_few : m ≤ 255 = omega arith in
    let last : pos (suc m) -ℤ pos 1 ≡ pos m = omega (arith, ints) in
    let most = mul-le-mul k_few m_few in
    rw last (omega (arith, ints, most), omega (arith, ints, most))

-- the last number of a ramp, as the machine computes it
pub last_there : (a d : ℤ) (n : ℕ) → FitsSigned w64 a → FitsSigned w64 d → n ≤ 256 → pos 0 ≤ℤ a → a <ℤ pos 4294967296 → negsuc 4294967295 ≤ℤ d → d ≤ℤ pos 4294967296
    → to_z w64 (of_z w64 (to_z w64 (of_z w64 a) +ℤ to_z w64 (of_z w64 (to_z w64 (of_z w64 d) *ℤ to_z w64 (of_z w64 (to_z w64 n -ℤ pos 1)))))) ≡ a +ℤ d *ℤ (pos n -ℤ pos 1)
last_there a d n fa fd few low high step_low step_high =
    let bounds = small_times d n step_low step_high few in
    let above = bounds.0 in
    let under = bounds.1 in
    let count : to_z w64 n ≡ pos n = to_z_pos w64 n (omega arith) in
    let turns : to_z w64 (of_z w64 (to_z w64 n -ℤ pos 1)) ≡ pos n -ℤ pos 1 = ap (λ (z : ℤ). to_z w64 (of_z w64 (z -ℤ pos 1))) count ∙ to_z-of_z w64 (pos n -ℤ pos 1) (omega (arith, ints)) in
    let times : to_z w64 (of_z w64 (to_z w64 (of_z w64 d) *ℤ to_z w64 (of_z w64 (to_z w64 n -ℤ pos 1)))) ≡ d *ℤ (pos n -ℤ pos 1) =
    (λ i. to_z w64 (of_z w64 (to_z-of_z w64 d fd i *ℤ turns i))) ∙ to_z-of_z w64 (d *ℤ (pos n -ℤ pos 1)) (omega (arith, ints, above, under)) in
    (λ i. to_z w64 (of_z w64 (to_z-of_z w64 a fa i +ℤ times i))) ∙ to_z-of_z w64 (a +ℤ d *ℤ (pos n -ℤ pos 1)) (omega (arith, ints, above, under))

landed : (at w b k stride : ℕ) → at + w * (k * stride + b) < 2 ^ 62 → wrapped (pos (at + w * b) +ℤ wrapped (pos k *ℤ pos (stride * w))) ≡ pos (at + w * (k * stride + b))
landed at w b k stride near =
    let whole : pos (at + w * b) +ℤ pos k *ℤ pos (stride * w) ≡ pos (at + w * (k * stride + b)) = ap pos (omega arith) in
    int_wrap-add_right w64 (pos (at + w * b)) (pos k *ℤ pos (stride * w))
    ∙ ap wrapped whole
    ∙ int_wrap_fits w64 (pos (at + w * (k * stride + b))) (omega (arith, ints))

-- the first byte of an element with the index of one more dimension
pub spot_along : (at w most extent stride : ℕ) (offset : Option ℕ) (by x i : ℤ) → at + w * ((extent - 1) * stride + most) < 2 ^ 62 → by ≡ pos (stride * w)
    → pos 0 ≤ℤ i → i <ℤ pos extent → IsSpot at w most offset x → IsSpot at w ((extent - 1) * stride + most) (along i extent stride offset) (moved by x i)
spot_along at w most extent stride offset by x (negsuc k) near by_is low high spot = absurd (omega (arith, ints))
spot_along at w most extent stride offset by x (pos k) near by_is low high spot =
    let b = spot.before in
    let low_b = spot.low in
    let below : k < extent = omega (arith, ints) in
    let fewer : k * stride ≤ (extent - 1) * stride = mul-le-mul_right stride (omega arith) in
    let reached : k * stride + b ≤ (extent - 1) * stride + most = omega (arith, fewer, low_b) in
    let room : w * (k * stride + b) ≤ w * ((extent - 1) * stride + most) = mul-le-mul_left w reached in
    record {
      before = k * stride + b;
      there = ap (along (pos k) extent stride) spot.there ∙ ap (λ (t : Bool). if t then Some (k * stride + b) else None) (lt-ltb k extent below);
      low = reached;
      is = (λ t. moved (by_is t) (spot.is t) (pos k)) ∙ landed at w b k stride (omega (arith, room, near));
    }
