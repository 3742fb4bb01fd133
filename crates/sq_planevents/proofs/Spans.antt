-- How far views reach.
use Rattle.std.proofs.Common.{◌≡◌, ℕ, zero, suc, ◌+◌, ◌-◌, ◌*◌, ◌<◌, ◌≤◌, ◌==◌, ◌&&◌, true, List, [], ◌∷◌, length, refl, sym, ap, subst, arith, Bool, false, ◌∙◌}
use Rattle.std.specs.Prelude.{◌^◌, not, nat_eq, nat_le, nat_lt, IfOk, Result, Ok, Err}
use Rattle.std.specs.List.{All}
use Rattle.std.proofs.lemmas.Bool.Decides.{nat_tests}
use Rattle.std.proofs.Math.Nat.{mul-le-mul_right}
use Rattle.sq_num.specs.declared.Elem.{Elem}
use Rattle.sq_num.specs.declared.Elem.TheVariants as el
use Rattle.sq_num.specs.Elements.{width}
use Rattle.sq_rect.specs.declared.view.View.{View}
use Rattle.sq_ir.specs.Events.{places, is_among}
use Rattle.sq_areas.specs.Areas.{HasByte, reach_of}
use Rattle.sq_areas.specs.declared.areas.Step.{Step}
use Rattle.sq_areas.specs.declared.areas.Area.{Area}
use Rattle.sq_areas.specs.Viewed.{steps_of}
use Rattle.sq_areas.specs.Alike.{IsBelow, IsAreaOf}
use Rattle.sq_areas.proofs.Coordinates.{views_are_areas}
use Rattle.sq_plantext.specs.declared.text.ViewText.{ViewText}
use Rattle.sq_plantext.specs.declared.text.PlanText.{PlanText}
use Rattle.sq_planevents.specs.Twice as twice
use Rattle.sq_planevents.specs.First.{Decides}
use Rattle.sq_planevents.specs.Views.{are_words, are_some, is_strided, span_of, bytes_over, seen, IsSmall, IsNear, IsShown, IsOnce}
use Rattle.sq_planevents.proofs.Standings.{and_both, both_and}

-- ---- what the tests say

pub words_all : (ns : List ℕ) → are_words ns ≡ true → All (λ n. n < 2 ^ 32) ns
words_all [] h k d l = absurd (omega (arith, l))
words_all (n ∷ ns) h zero d l = let p = and_both (nat_lt n (2 ^ 32)) (are_words ns) h in let q : n < 4294967296 = grind (arith, nat_tests, p.0) in q
words_all (n ∷ ns) h (suc k) d l = let p = and_both (nat_lt n (2 ^ 32)) (are_words ns) h in words_all ns p.1 k d (omega (arith, l))

pub all_words : (ns : List ℕ) → All (λ n. n < 2 ^ 32) ns → are_words ns ≡ true
all_words [] h = refl
all_words (n ∷ ns) h = let l : n < 4294967296 = h 0 n (omega arith) in both_and (nat_lt n (2 ^ 32)) (are_words ns) (grind (arith, nat_tests, l)) (all_words ns (λ k d q. h (suc k) d (omega (arith, q))))

pub some_all : (ns : List ℕ) → are_some ns ≡ true → All (λ n. 0 < n) ns
some_all [] h k d l = absurd (omega (arith, l))
some_all (n ∷ ns) h zero d l = let p = and_both (not (nat_eq n 0)) (are_some ns) h in grind (arith, nat_tests, p.0)
some_all (n ∷ ns) h (suc k) d l = let p = and_both (not (nat_eq n 0)) (are_some ns) h in some_all ns p.1 k d (omega (arith, l))

pub all_some : (ns : List ℕ) → All (λ n. 0 < n) ns → are_some ns ≡ true
all_some [] h = refl
all_some (n ∷ ns) h = let l : 0 < n = h 0 n (omega arith) in both_and (not (nat_eq n 0)) (are_some ns) (grind (arith, nat_tests, l)) (all_some ns (λ k d q. h (suc k) d (omega (arith, q))))

-- a strided view, in words
pub record IsStrided (v : ViewText) : Type 0 where
  pub some : 1 ≤ length v.extents
  pub few : length v.extents ≤ 3
  pub alike : length v.strides ≡ length v.extents
  pub extents : All (λ n. n < 2 ^ 32) v.extents
  pub strides : All (λ n. n < 2 ^ 32) v.strides
  pub elements : All (λ n. 0 < n) v.extents

module _ (v : ViewText) where
  pub strided : is_strided v ≡ true → IsStrided v
  strided h =
      let a = and_both (nat_le 1 (length v.extents) && nat_le (length v.extents) 3 && (length v.strides == length v.extents) && are_words v.extents && are_words v.strides) (are_some v.extents) h in
      let b = and_both (nat_le 1 (length v.extents) && nat_le (length v.extents) 3 && (length v.strides == length v.extents) && are_words v.extents) (are_words v.strides) a.0 in
      let c = and_both (nat_le 1 (length v.extents) && nat_le (length v.extents) 3 && (length v.strides == length v.extents)) (are_words v.extents) b.0 in
      let d = and_both (nat_le 1 (length v.extents) && nat_le (length v.extents) 3) (length v.strides == length v.extents) c.0 in
      let e = and_both (nat_le 1 (length v.extents)) (nat_le (length v.extents) 3) d.0 in
      record {
        some = grind (arith, nat_tests, e.0);
        few = grind (arith, nat_tests, e.1);
        alike = grind (arith, nat_tests, d.1);
        extents = words_all v.extents c.1;
        strides = words_all v.strides b.1;
        elements = some_all v.extents a.1;
      }

  pub is_so : IsStrided v → is_strided v ≡ true
  is_so s =
      let x = s.some in
      let y = s.few in
      let z = s.alike in
      both_and (nat_le 1 (length v.extents) && nat_le (length v.extents) 3 && (length v.strides == length v.extents) && are_words v.extents && are_words v.strides) (are_some v.extents)
      (both_and (nat_le 1 (length v.extents) && nat_le (length v.extents) 3 && (length v.strides == length v.extents) && are_words v.extents) (are_words v.strides)
      (both_and (nat_le 1 (length v.extents) && nat_le (length v.extents) 3 && (length v.strides == length v.extents)) (are_words v.extents)
      (both_and (nat_le 1 (length v.extents) && nat_le (length v.extents) 3) (length v.strides == length v.extents)
      (both_and (nat_le 1 (length v.extents)) (nat_le (length v.extents) 3) (grind (arith, nat_tests, x)) (grind (arith, nat_tests, y)))
      (grind (arith, nat_tests, z)))
      (all_words v.extents s.extents))
      (all_words v.strides s.strides))
      (all_some v.extents s.elements)

-- ---- how far

below_square : (n s : ℕ) → n < 4294967296 → s < 4294967296 → (n - 1) * s ≤ 18446744073709551616
below_square n s l m =
    let a : (n - 1) * s ≤ 4294967296 * s = mul-le-mul_right s (omega (arith, l)) in
    omega (arith, a, m)

span_below : (ns ss : List ℕ) → All (λ n. n < 2 ^ 32) ns → All (λ n. n < 2 ^ 32) ss → span_of ns ss ≤ length ns * 18446744073709551616
span_below [] ss a b = omega arith
span_below (n ∷ ns) [] a b = omega arith
span_below (n ∷ ns) (s ∷ ss) a b =
    let r = span_below ns ss (λ k d l. a (suc k) d (omega (arith, l))) (λ k d l. b (suc k) d (omega (arith, l))) in
    let q = below_square n s (a 0 n (omega arith)) (b 0 s (omega arith)) in
    omega (arith, r, q)

pub width_few : (e : Elem) → (1 ≤ width e) × (width e ≤ 8)
width_few el.Byte = (omega arith, omega arith)
width_few el.Int = (omega arith, omega arith)
width_few el.Long = (omega arith, omega arith)

pub span_small : (v : ViewText) → is_strided v ≡ true → span_of v.extents v.strides < 2 ^ 66
span_small v h = let s = strided v h in let r = span_below v.extents v.strides s.extents s.strides in let f = s.few in omega (arith, r, f)

same_span : (ns ss : List ℕ) → length ss ≡ length ns → twice.span_of (twice.turns_of ns ss) ≡ span_of ns ss
same_span [] ss e = refl
same_span (n ∷ ns) [] e = absurd (omega (arith, e))
same_span (n ∷ ns) (s ∷ ss) e = ap (λ z. (n - 1) * s + z) (same_span ns ss (omega (arith, e)))

pub turns_small : (v : ViewText) → IsSmall v → twice.span_of (twice.turns_of v.extents v.strides) < 2 ^ 62
turns_small v h =
    let s = strided v h.strided in
    let o = h.over in
    let w = (width_few v.elem).0 in
    let e = same_span v.extents v.strides s.alike in
    let m : 1 * span_of v.extents v.strides ≤ width v.elem * span_of v.extents v.strides = mul-le-mul_right (span_of v.extents v.strides) w in
    omega (arith, o, e, m)

-- the bytes of a view lie within what it reaches over
module _ (w : ℕ) where
  reaching : (ns ss : List ℕ) (at k : ℕ) → HasByte (steps_of w ns ss) at w k → (at ≤ k) × (k < at + (w * span_of ns ss + w))
  reaching [] ss at k h = let a = h.0 in let b = h.1 in (a, omega (arith, b))
  reaching (n ∷ ns) [] at k h = let a = h.0 in let b = h.1 in (a, omega (arith, b))
  reaching (n ∷ ns) (s ∷ ss) at k h =
      let r = reaching ns ss (at + h.0 * (w * s)) k h.2 in
      let l = h.1 in
      let m : h.0 * (w * s) ≤ (n - 1) * (w * s) = mul-le-mul_right (w * s) (omega (arith, l)) in
      let e : (n - 1) * (w * s) ≡ w * ((n - 1) * s) = swap (n - 1) w s in
      let a = r.0 in
      let b = r.1 in
      (omega (arith, a), omega (arith, b, m, e))
    where
      swap : (a b c : ℕ) → a * (b * c) ≡ b * (a * c)
      swap a b c = omega arith

  -- the first byte and the last one are the view's
  last : (ns ss : List ℕ) (at : ℕ) → 1 ≤ w → length ss ≡ length ns → All (λ n. 0 < n) ns → HasByte (steps_of w ns ss) at w (at + w * span_of ns ss + (w - 1))
  last [] ss at p e a = (omega arith, omega (arith, p))
  last (n ∷ ns) [] at p e a = absurd (omega (arith, e))
  last (n ∷ ns) (s ∷ ss) at p e a =
      let l : 0 < n = a 0 n (omega arith) in
      let r = last ns ss (at + (n - 1) * (w * s)) p (omega (arith, e)) (λ k d q. a (suc k) d (omega (arith, q))) in
      let z : at + (n - 1) * (w * s) + w * span_of ns ss + (w - 1) ≡ at + w * ((n - 1) * s + span_of ns ss) + (w - 1) = same (n - 1) in
      (n - 1, omega (arith, l), subst (HasByte (steps_of w ns ss) (at + (n - 1) * (w * s)) w) z r)
    where
      same : (m : ℕ) → at + m * (w * s) + w * span_of ns ss + (w - 1) ≡ at + w * (m * s + span_of ns ss) + (w - 1)
      same m = omega arith

module _ (x : PlanText) (v : ViewText) (s : IsStrided v) where
  pub among_near : (k : ℕ) → is_among (places (seen x v)) k ≡ true → ((seen x v).at ≤ k) × (k < (seen x v).at + bytes_over v)
  among_near k h = reaching (width v.elem) v.extents v.strides (seen x v).at k ((views_are_areas (seen x v) s.alike k).0 h)

  pub last_among : is_among (places (seen x v)) ((seen x v).at + width v.elem * span_of v.extents v.strides + (width v.elem - 1)) ≡ true
  last_among = (views_are_areas (seen x v) s.alike _).1 (last (width v.elem) v.extents v.strides (seen x v).at (width_few v.elem).0 s.alike s.elements)

pub below : (x : PlanText) (v : ViewText) → IsSmall v → IsNear x v → IsBelow (seen x v) (2 ^ 32)
below x v h n =
    let s = strided v h.strided in
    record { some = s.elements; below = λ k b. let r = (among_near x v s k b).1 in let q = n.near in omega (arith, r, q) }

pub span_wide : (v : ViewText) (es ss : List ℕ) → is_strided v ≡ true → es ≡ v.extents → ss ≡ v.strides → span_of es ss < 2 ^ 66
span_wide v es ss h e f = subst (λ l. span_of l ss < 2 ^ 66) (sym e) (subst (λ l. span_of v.extents l < 2 ^ 66) (sym f) (span_small v h))

pub over_small : (el : Elem) (w n : ℕ) → w ≡ width el → n < 73786976294838206464 → w * n + w < 1180591620717411303424
over_small el w n e h =
    let f = (width_few el).1 in
    let m : w * n ≤ 8 * n = mul-le-mul_right n (omega (arith, e, f)) in
    omega (arith, m, e, f, h)

pub steps_small : (v : ViewText) (steps : List Step) → IsSmall v → steps ≡ twice.turns_of v.extents v.strides → twice.span_of steps < 4611686018427387904
steps_small v steps h e = subst (λ l. twice.span_of l < 4611686018427387904) (sym e) (turns_small v h)

pub shown : (x : PlanText) (v : ViewText) (u : View) (a : Area) → IsSmall v → IsNear x v → u ≡ seen x v → IsAreaOf u a → (IsBelow u (2 ^ 32) → a.at + reach_of a.steps a.run < 2 ^ 63) → IsShown x v a
shown x v u a h n e i b = record { area = subst (λ w. IsAreaOf w a) e i; near = b (subst (λ w. IsBelow w (2 ^ 32)) (sym e) (below x v h n)) }

pub area_shown : {E : Type 0} (x : PlanText) (v : ViewText) (u : View) (r : Result Area E) → IsSmall v → IsNear x v → u ≡ seen x v → IfOk r (λ a. IsAreaOf u a) → IfOk r (λ a. IsBelow u (2 ^ 32) → a.at + reach_of a.steps a.run < 2 ^ 63)
    → IfOk r (λ a. IsShown x v a)
area_shown x v u (Ok a) h n e i b = shown x v u a h n e i b
area_shown x v u (Err e) h n f i b = tt

-- in another order
pub ordered_small : (v : ViewText) (steps ordered slice : List Step) → IsSmall v → steps ≡ twice.turns_of v.extents v.strides → twice.IsOrder steps ordered → slice ≡ ordered → twice.span_of slice < 4611686018427387904
ordered_small v steps ordered slice h e o s = subst (λ n. n < 4611686018427387904) (sym (ap twice.span_of s ∙ o.span)) (steps_small v steps h e)

pub ordered_once : (v : ViewText) (steps ordered slice : List Step) (told : Bool) → steps ≡ twice.turns_of v.extents v.strides → twice.IsOrder steps ordered → slice ≡ ordered → (told ≡ true → twice.IsTwice slice) → (told ≡ false → twice.IsTwice slice → ⊥)
    → Decides (not told) (IsOnce v)
ordered_once v steps ordered slice true e o s yes_ no_ = record { yes = λ f. cc; none = λ f once. once (subst twice.IsTwice e (o.untwice (subst twice.IsTwice s (yes_ refl)))) }
ordered_once v steps ordered slice false e o s yes_ no_ = record { yes = λ f t. no_ refl (subst twice.IsTwice (sym s) (o.twice (subst twice.IsTwice (sym e) t))); none = λ f. cc }
