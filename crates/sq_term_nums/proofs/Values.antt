-- Where a number has its value, the word that it is evaluated to is this value.
use Rattle.std.proofs.Common.{◌≡◌, ◌≢◌, ℕ, ◌^◌, Bool, true, false, List, get_or, ℤ, pos, negsuc, ◌+ℤ◌, ◌-ℤ◌, ◌*ℤ◌, refl, sym, ap, ap₂, ◌∙◌, subst, arith}
use Rattle.std.specs.Prelude.{◌≤ℤ◌, if◌then◌else◌, nat_abs, int_lt, int_div, int_rem, neg_ℤ}
use Rattle.std.specs.Ordering.{int_eq}
use Rattle.std.proofs.lemmas.Int.{ints}
use Rattle.sq_num.specs.declared.Elem.TheVariants.{Long}
use Rattle.sq_num.specs.Elements.{least, greatest, IsValue}
use Rattle.sq_ir.specs.Written as whole
use Rattle.sq_ir.specs.Written.{Setting, count_of, value_of}
use Rattle.sq_ir.specs.Plans.{HasValue, IsCount}
use Rattle.sq_ir.specs.declared.num.Num.{Num, roll-Num}
use Rattle.sq_ir.specs.declared.num.Num.TheVariants as n
use Rattle.sq_ir.specs.declared.num.Num.TheOpen.{Num-F}
use Rattle.sq_ir.specs.declared.num.Num.TheFolds.{fold-roll-Num, ind-Num, map-Num}
use Rattle.sq_ir.proofs.Counting.{has_index, has_add, has_sub, has_mul, has_div, has_rem, has_min, has_pick}
use Rattle.sq_ir.proofs.Equations.{value_const, value_index, value_add, value_sub, value_mul, value_div, value_rem, value_min, value_pick, value_children}
use Rattle.sq_term_nums.specs.Words.{Env, fit, div_of, rem_of, nat_part, pick_of, value_step, value, count}
use Rattle.sq_term_nums.specs.Laws.{Agree}

-- ---- words

if-true : {X : Type 0} (v : Bool) (a b : X) → v ≡ true → (if v then a else b) ≡ a
if-true true a b e = refl
if-true false a b e = absurd (let z = e in cc)

if-false : {X : Type 0} (v : Bool) (a b : X) → v ≡ false → (if v then a else b) ≡ b
if-false false a b e = refl
if-false true a b e = absurd (let z = e in cc)

module _ (x : ℤ) where
  fit-in : IsValue Long x → fit x ≡ x
  unfolding least greatest
  fit-in h =
      let low = h.low in
      let high = h.high in
      let a : int_lt x (neg_ℤ (pos (2 ^ 63))) ≡ false = grind (arith, ints, low) in
      let b : int_lt x (pos (2 ^ 63)) ≡ true = grind (arith, ints, high) in
      if-false (int_lt x (neg_ℤ (pos (2 ^ 63)))) (pos 0) (if int_lt x (pos (2 ^ 63)) then x else pos 0) a ∙ if-true (int_lt x (pos (2 ^ 63))) x (pos 0) b

no-zero : (y : ℤ) → y ≢ pos 0 → int_eq y (pos 0) ≡ false
no-zero y h = grind (arith, ints, h)

-- a number that isn't negative
part-of : (z : ℤ) → pos 0 ≤ℤ z → nat_part z ≡ nat_abs z
part-of (pos k) h = refl
part-of (negsuc k) h = absurd (omega (arith, ints, h))

word_value : (d : Num-F Num) → value (roll-Num d) ≡ value_step (map-Num Num (Env → ℤ) value d)
word_value d = fold-roll-Num (Env → ℤ) value_step d

module _ (s : Setting) (env : whole.Env) (at : Env) (ag : Agree s env at) where
  abbrev Same : Num → Type 0
  Same x = HasValue s x env → value x at ≡ value_of s x env

  abbrev K : Type 0
  K = (x : Num) × Same x

  asked : (x : Num) (f : whole.Env → Type 0) → HasValue s x ≡ f → HasValue s x env → f env
  asked x f e h = subst (λ (f : whole.Env → Type 0). f env) e h

  rolled : (x : Num) (d : Num-F Num) → roll-Num d ≡ x → value x at ≡ value_step (map-Num Num (Env → ℤ) (value) d) at
  rolled x d e = ap (λ y. value y at) (sym e) ∙ ap (λ f. f at) (word_value d)

  same_step : (y : Num-F K) → Same (roll-Num (map-Num K Num (λ p. p.0) y))
  same_step (Num-F.Const k) = subst Same (sym (n.rolls-Const k)) (λ h. rolled (n.Const k) (Num-F.Const k) (n.rolls-Const k)
      ∙ ap (λ f. f env) (sym (value_const s k)))
  same_step (Num-F.Index d) = subst Same (sym (n.rolls-Index d)) (λ h.
      rolled (n.Index d) (Num-F.Index d) (n.rolls-Index d) ∙ ap (λ ts. fit (pos (get_or ts d 0))) ag.turns
      ∙ fit-in (pos (get_or env.turns d 0)) (asked _ _ (has_index s d) h).1 ∙ ap (λ f. f env) (sym (value_index s d)))
  same_step (Num-F.Add a b) = subst Same (sym (n.rolls-Add a.0 b.0)) (λ h.
      let p = asked _ _ (has_add s a.0 b.0) h in
      rolled (n.Add a.0 b.0) (Num-F.Add a.0 b.0) (n.rolls-Add a.0 b.0) ∙ ap₂ (λ u v. fit (u +ℤ v)) (a.1 p.0) (b.1 p.1)
      ∙ fit-in (value_of s a.0 env +ℤ value_of s b.0 env) p.2 ∙ ap (λ f. f env) (sym (value_add s a.0 b.0)))
  same_step (Num-F.Sub a b) = subst Same (sym (n.rolls-Sub a.0 b.0)) (λ h.
      let p = asked _ _ (has_sub s a.0 b.0) h in
      rolled (n.Sub a.0 b.0) (Num-F.Sub a.0 b.0) (n.rolls-Sub a.0 b.0) ∙ ap₂ (λ u v. fit (u -ℤ v)) (a.1 p.0) (b.1 p.1)
      ∙ fit-in (value_of s a.0 env -ℤ value_of s b.0 env) p.2 ∙ ap (λ f. f env) (sym (value_sub s a.0 b.0)))
  same_step (Num-F.Mul a b) = subst Same (sym (n.rolls-Mul a.0 b.0)) (λ h.
      let p = asked _ _ (has_mul s a.0 b.0) h in
      rolled (n.Mul a.0 b.0) (Num-F.Mul a.0 b.0) (n.rolls-Mul a.0 b.0) ∙ ap₂ (λ u v. fit (u *ℤ v)) (a.1 p.0) (b.1 p.1)
      ∙ fit-in (value_of s a.0 env *ℤ value_of s b.0 env) p.2 ∙ ap (λ f. f env) (sym (value_mul s a.0 b.0)))
  same_step (Num-F.Div a b) = subst Same (sym (n.rolls-Div a.0 b.0)) (λ h.
      let p = asked _ _ (has_div s a.0 b.0) h in
      let y = value_of s b.0 env in
      let q = int_div (value_of s a.0 env) y in
      rolled (n.Div a.0 b.0) (Num-F.Div a.0 b.0) (n.rolls-Div a.0 b.0) ∙ ap₂ (λ u v. div_of u v) (a.1 p.0) (b.1 p.1)
      ∙ if-false (int_eq y (pos 0)) (pos 0) (fit q) (no-zero y p.2) ∙ fit-in q p.3 ∙ ap (λ f. f env) (sym (value_div s a.0 b.0)))
  same_step (Num-F.Rem a b) = subst Same (sym (n.rolls-Rem a.0 b.0)) (λ h.
      let p = asked _ _ (has_rem s a.0 b.0) h in
      let y = value_of s b.0 env in
      let q = int_rem (value_of s a.0 env) y in
      rolled (n.Rem a.0 b.0) (Num-F.Rem a.0 b.0) (n.rolls-Rem a.0 b.0) ∙ ap₂ (λ u v. rem_of u v) (a.1 p.0) (b.1 p.1)
      ∙ if-false (int_eq y (pos 0)) (pos 0) q (no-zero y p.2) ∙ ap (λ f. f env) (sym (value_rem s a.0 b.0)))
  same_step (Num-F.Min a b) = subst Same (sym (n.rolls-Min a.0 b.0)) (λ h.
      let p = asked _ _ (has_min s a.0 b.0) h in
      rolled (n.Min a.0 b.0) (Num-F.Min a.0 b.0) (n.rolls-Min a.0 b.0) ∙ ap₂ (λ u v. if int_lt v u then v else u) (a.1 p.0) (b.1 p.1)
      ∙ ap (λ f. f env) (sym (value_min s a.0 b.0)))
  same_step (Num-F.Pick ks a) = subst Same (sym (n.rolls-Pick ks a.0)) (λ h.
      let p = asked _ _ (has_pick s ks a.0) h in
      let e = p.2 in
      rolled (n.Pick ks a.0) (Num-F.Pick ks a.0) (n.rolls-Pick ks a.0) ∙ ap (pick_of ks) (a.1 p.0 ∙ e) ∙ sym (ap (λ z. get_or ks (nat_abs z) (pos 0)) e)
      ∙ ap (λ f. f env) (sym (value_pick s ks a.0)))
  same_step Num-F.Children = subst Same (sym n.rolls-Children) (λ h.
      rolled n.Children Num-F.Children n.rolls-Children ∙ ap (λ m. pos m) ag.children ∙ ap (λ f. f env) (sym (value_children s)))

  pub value-is : (x : Num) → HasValue s x env → value x at ≡ value_of s x env
  value-is = ind-Num Same (λ x y is. subst (λ z. Same (roll-Num z)) is (same_step y))

  pub count-is : (x : Num) → IsCount s env x → count x at ≡ count_of s x env
  count-is x h = ap nat_part (value-is x h.has) ∙ part-of (value_of s x env) h.natural
