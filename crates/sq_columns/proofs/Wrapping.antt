-- Sums and multiples of numbers cut to 64 bits.
use Rattle.std.proofs.Common.{◌≡◌, ℕ, ◌+◌, ◌*◌, ◌%◌, ◌<◌, ℤ, pos, neg_ℤ, ◌+ℤ◌, ◌-ℤ◌, ◌*ℤ◌, w64, FitsSigned, to_z, of_z, sym, ◌∙◌, ap, arith}
use Rattle.std.proofs.lemmas.Int.{ints, int_wrap_fits, int_wrap-add_left, int_wrap-add_right, int_wrap-sub_right, int_wrap-mul_left, int_wrap-mul_right, wrapping_add-bits, wrapping_mul-bits, wrapping_mul_is, to_z-of_z, to_z_pos}
use borrow.Author.Differences.{up, down, sum_is_lem, neg_is, product_is}
use native.Mathlib.Nat.{mod-lt}
use lib.IntN.{*ℤ_comm}
use mir.ValLaws as laws
use Rattle.sq_leaf.specs.Numbers.{wrapped}

mul_add : (d e k : ℤ) → (d +ℤ e) *ℤ k ≡ d *ℤ k +ℤ e *ℤ k
mul_add d e k =
    let s = sum_is_lem d e in
    let by = λ (m : ℕ) (a b : ℕ) (h : a ≡ b). ap (λ x. x * m) h in
    omega (arith, ints, by (up k) _ _ s, by (down k) _ _ s)

mul_neg : (e k : ℤ) → neg_ℤ e *ℤ k ≡ neg_ℤ (e *ℤ k)
mul_neg e k =
    let n = neg_is e in
    let by = λ (m : ℕ) (a b : ℕ) (h : a ≡ b). ap (λ x. x * m) h in
    omega (arith, ints, by (up k) _ _ n.0, by (down k) _ _ n.0, by (up k) _ _ n.1, by (down k) _ _ n.1)

-- cut on the way, a ramp is the same
flat : (a d k : ℤ) → wrapped (wrapped a +ℤ wrapped d *ℤ k) ≡ wrapped (a +ℤ d *ℤ k)
flat a d k =
    int_wrap-add_left w64 a (wrapped d *ℤ k)
    ∙ sym (int_wrap-add_right w64 a (wrapped d *ℤ k))
    ∙ ap (λ z. wrapped (a +ℤ z)) (int_wrap-mul_left w64 d k)
    ∙ int_wrap-add_right w64 a (d *ℤ k)

both : (p q : ℤ) → wrapped (wrapped p +ℤ wrapped q) ≡ wrapped (p +ℤ q)
both p q = int_wrap-add_left w64 p (wrapped q) ∙ int_wrap-add_right w64 p q

both_less : (p q : ℤ) → wrapped (wrapped p -ℤ wrapped q) ≡ wrapped (p -ℤ q)
both_less p q = int_wrap-add_left w64 p (neg_ℤ (wrapped q)) ∙ int_wrap-sub_right w64 p q

both_times : (p q : ℤ) → wrapped (wrapped p *ℤ wrapped q) ≡ wrapped (p *ℤ q)
both_times p q = int_wrap-mul_left w64 p (wrapped q) ∙ int_wrap-mul_right w64 p q

shuffle : (a b p q : ℤ) → (a +ℤ b) +ℤ (p +ℤ q) ≡ (a +ℤ p) +ℤ (b +ℤ q)
shuffle a b p q = omega (arith, ints)

shuffle_less : (a b p q : ℤ) → (a -ℤ b) +ℤ (p +ℤ neg_ℤ q) ≡ (a +ℤ p) -ℤ (b +ℤ q)
shuffle_less a b p q = omega (arith, ints)

-- the sum, the difference and the multiples of ramps are ramps
pub sum_ramps : (a d b e x y k : ℤ) → x ≡ wrapped (a +ℤ b) → y ≡ wrapped (d +ℤ e) → wrapped (x +ℤ y *ℤ k) ≡ wrapped (wrapped (a +ℤ d *ℤ k) +ℤ wrapped (b +ℤ e *ℤ k))
sum_ramps a d b e x y k first step =
    (λ i. wrapped (first i +ℤ step i *ℤ k))
    ∙ flat (a +ℤ b) (d +ℤ e) k
    ∙ ap (λ z. wrapped ((a +ℤ b) +ℤ z)) (mul_add d e k)
    ∙ ap wrapped (shuffle a b (d *ℤ k) (e *ℤ k))
    ∙ sym (both (a +ℤ d *ℤ k) (b +ℤ e *ℤ k))

pub less_ramps : (a d b e x y k : ℤ) → x ≡ wrapped (a -ℤ b) → y ≡ wrapped (d -ℤ e) → wrapped (x +ℤ y *ℤ k) ≡ wrapped (wrapped (a +ℤ d *ℤ k) -ℤ wrapped (b +ℤ e *ℤ k))
less_ramps a d b e x y k first step =
    (λ i. wrapped (first i +ℤ step i *ℤ k))
    ∙ flat (a -ℤ b) (d -ℤ e) k
    ∙ ap (λ z. wrapped ((a -ℤ b) +ℤ z)) (mul_add d (neg_ℤ e) k ∙ ap (λ z. d *ℤ k +ℤ z) (mul_neg e k))
    ∙ ap wrapped (shuffle_less a b (d *ℤ k) (e *ℤ k))
    ∙ sym (both_less (a +ℤ d *ℤ k) (b +ℤ e *ℤ k))

swap : (d k b : ℤ) → (d *ℤ k) *ℤ b ≡ (d *ℤ b) *ℤ k
swap d k b =
    let m = product_is d k in
    let n = product_is d b in
    let by = λ (t : ℕ) (p q : ℕ) (h : p ≡ q). ap (λ x. x * t) h in
    omega (arith, ints, by (up b) _ _ m.0, by (down b) _ _ m.0, by (up b) _ _ m.1, by (down b) _ _ m.1, by (up k) _ _ n.0, by (down k) _ _ n.0, by (up k) _ _ n.1, by (down k) _ _ n.1)

no_step : (b k : ℤ) → b +ℤ pos 0 *ℤ k ≡ b
no_step b k = omega (arith, ints)

times_number : (a d b k : ℤ) → wrapped (wrapped (a *ℤ b) +ℤ wrapped (d *ℤ b) *ℤ k) ≡ wrapped (wrapped (a +ℤ d *ℤ k) *ℤ wrapped (b +ℤ pos 0 *ℤ k))
times_number a d b k =
    flat (a *ℤ b) (d *ℤ b) k
    ∙ ap (λ z. wrapped (a *ℤ b +ℤ z)) (sym (swap d k b))
    ∙ ap wrapped (sym (mul_add a (d *ℤ k) b))
    ∙ sym (both_times (a +ℤ d *ℤ k) b)
    ∙ ap (λ z. wrapped (wrapped (a +ℤ d *ℤ k) *ℤ wrapped z)) (sym (no_step b k))

pub ramp_times : (a d b e x y k : ℤ) → e ≡ pos 0 → x ≡ wrapped (a *ℤ b) → y ≡ wrapped (d *ℤ b) → wrapped (x +ℤ y *ℤ k) ≡ wrapped (wrapped (a +ℤ d *ℤ k) *ℤ wrapped (b +ℤ e *ℤ k))
ramp_times a d b e x y k flat_e first step =
    (λ i. wrapped (first i +ℤ step i *ℤ k))
    ∙ times_number a d b k
    ∙ ap (λ z. wrapped (wrapped (a +ℤ d *ℤ k) *ℤ wrapped (b +ℤ z *ℤ k))) (sym flat_e)

pub times_ramp : (a d b e x y k : ℤ) → d ≡ pos 0 → x ≡ wrapped (a *ℤ b) → y ≡ wrapped (a *ℤ e) → wrapped (x +ℤ y *ℤ k) ≡ wrapped (wrapped (a +ℤ d *ℤ k) *ℤ wrapped (b +ℤ e *ℤ k))
times_ramp a d b e x y k flat_d first step =
    ramp_times b e a d x y k flat_d (first ∙ ap wrapped (*ℤ_comm a b)) (step ∙ ap wrapped (*ℤ_comm a e))
    ∙ ap wrapped (*ℤ_comm (wrapped (b +ℤ e *ℤ k)) (wrapped (a +ℤ d *ℤ k)))

-- a ramp climbs by its step
pub climbed : (a d : ℤ) (j : ℕ) (x y : ℤ) → x ≡ wrapped (a +ℤ d *ℤ pos j) → y ≡ wrapped (x +ℤ d) → y ≡ wrapped (a +ℤ d *ℤ pos (j + 1))
climbed a d j x y here next =
    let one_more : (a +ℤ d *ℤ pos j) +ℤ d ≡ a +ℤ d *ℤ pos (j + 1) = omega (arith, ints) in
    next ∙ ap (λ (z : ℤ). wrapped (z +ℤ d)) here ∙ int_wrap-add_left w64 (a +ℤ d *ℤ pos j) d ∙ ap wrapped one_more

pub begun : (a d : ℤ) → FitsSigned w64 a → a ≡ wrapped (a +ℤ d *ℤ pos 0)
begun a d fits =
    let none : a +ℤ d *ℤ pos 0 ≡ a = omega (arith, ints) in
    sym (ap wrapped none ∙ int_wrap_fits w64 a fits)

-- what the machine's operators give
pub ramp_there : (a d : ℤ) (j : ℕ) → FitsSigned w64 a → FitsSigned w64 d → j < 256
    → to_z w64 ((of_z w64 a + (of_z w64 d * j) % 18446744073709551616) % 18446744073709551616) ≡ wrapped (a +ℤ d *ℤ pos j)
ramp_there a d j fa fd few =
    let step = (of_z w64 d * j) % 18446744073709551616 in
    let small : j < 18446744073709551616 = omega arith in
    let read : to_z w64 step ≡ wrapped (d *ℤ pos j) = wrapping_mul-bits w64 (of_z w64 d) j (laws.of_z_fits w64 d fd).fits small
    ∙ (λ i. wrapped (to_z-of_z w64 d fd i *ℤ to_z_pos w64 j (omega arith) i)) in
    wrapping_add-bits w64 (of_z w64 a) step (laws.of_z_fits w64 a fa).fits (mod-lt (of_z w64 d * j) (omega arith))
    ∙ (λ i. wrapped (to_z-of_z w64 a fa i +ℤ read i))
    ∙ int_wrap-add_right w64 a (d *ℤ pos j)

pub moved_there : (by x i : ℤ) → FitsSigned w64 by → FitsSigned w64 x → FitsSigned w64 i
    → to_z w64 ((of_z w64 x + (of_z w64 i * of_z w64 by) % 18446744073709551616) % 18446744073709551616) ≡ wrapped (x +ℤ wrapped (i *ℤ by))
moved_there by x i fb fx fi =
    let step = (of_z w64 i * of_z w64 by) % 18446744073709551616 in
    wrapping_add-bits w64 (of_z w64 x) step (laws.of_z_fits w64 x fx).fits (mod-lt (of_z w64 i * of_z w64 by) (omega arith))
    ∙ (λ t. wrapped (to_z-of_z w64 x fx t +ℤ wrapping_mul_is w64 i by fi fb t))
