-- A number under one more loop has a value where it had one.
use Rattle.std.proofs.Common.{◌≡◌, ℕ, suc, ◌+◌, ◌<◌, pos, ◌+ℤ◌, ◌-ℤ◌, ◌*ℤ◌, ◌∷◌, length, get_or, sym, ap₂, subst, ◌∙◌, arith}
use Rattle.std.specs.Prelude.{◌≢◌, ◌≤ℤ◌, int_div}
use Rattle.sq_num.specs.declared.Elem.TheVariants.{Long}
use Rattle.sq_num.specs.Elements.{IsValue}
use Rattle.sq_ir.specs.declared.num.Num.{Num, roll-Num}
use Rattle.sq_ir.specs.declared.num.Num.TheVariants as n
use Rattle.sq_ir.specs.declared.num.Num.TheOpen.{Num-F}
use Rattle.sq_ir.specs.declared.num.Num.TheFolds.{ind-Num, map-Num}
use Rattle.sq_ir.specs.Lifting.{lift}
use Rattle.sq_ir.specs.Written.{Setting, Env, at_turn, value_of}
use Rattle.sq_ir.specs.Plans.{Asked, HasValue}
use Rattle.sq_ir.specs.NumberLaws.{HasItsValue, LiftedHaveValues}
use Rattle.sq_ir.proofs.LiftEquations.{lift_const, lift_index, lift_add, lift_sub, lift_mul, lift_div, lift_rem, lift_min, lift_pick, lift_children}
use Rattle.sq_ir.proofs.LiftOnce.{lift_one}
use Rattle.sq_ir.proofs.Counting.{has_const, has_index, has_add, has_sub, has_mul, has_div, has_rem, has_min, has_pick, has_children}

-- the same value, and a value, make the same count
pub its_value : (t : Setting) (inner : Env) (y : Num) (s : Setting) (env : Env) (x : Num)
    → value_of t y inner ≡ value_of s x env → (HasValue s x env → HasValue t y inner) → HasItsValue t inner y s env x
its_value t inner y s env x v h = record {
  value = v;
  has = h;
  count = λ c. record { has = h c.has; natural = subst (λ z. pos 0 ≤ℤ z) (sym v) c.natural };
}

module _ (s : Setting) (t : ℕ) where
  abbrev Keeps : Num → Type 0
  Keeps x = (env : Env) → HasValue s x env → HasValue s (lift 1 x) (at_turn env t)

  abbrev K : Type 0
  K = (x : Num) × Keeps x

  by_equations : (x y : Num) (p q : Asked) → HasValue s x ≡ p → lift 1 x ≡ y → HasValue s y ≡ q
      → ((env : Env) → p env → q (at_turn env t)) → Keeps x
  by_equations x y p q e l f g env h =
      subst (λ (z : Num). HasValue s z (at_turn env t)) (sym l)
      (subst (λ (r : Asked). r (at_turn env t)) (sym f) (g env (subst (λ (r : Asked). r env) e h)))

  keeps_step : (y : Num-F K) → Keeps (roll-Num (map-Num K Num (λ p. p.0) y))
  keeps_step (Num-F.Const k) =
      subst Keeps (sym (n.rolls-Const k)) (by_equations (n.Const k) _ _ _ (has_const s k) (lift_const 1 k) (has_const s k) (λ env h. h))
  keeps_step (Num-F.Index d) =
      let e : d + 1 ≡ suc d = omega arith in
      subst Keeps (sym (n.rolls-Index d)) (by_equations (n.Index d) _ _ _ (has_index s d) (lift_index 1 d) (has_index s (d + 1)) (λ env h.
      subst (λ (k : ℕ). (k < length (t ∷ env.turns)) × IsValue Long (pos (get_or (t ∷ env.turns) k 0))) (sym e)
      (let l = h.0 in omega (arith, l), h.1)))
  keeps_step (Num-F.Add a b) =
      subst Keeps (sym (n.rolls-Add a.0 b.0)) (by_equations (n.Add a.0 b.0) _ _ _ (has_add s a.0 b.0) (lift_add 1 a.0 b.0) (has_add s (lift 1 a.0) (lift 1 b.0)) (λ env h.
      (a.1 env h.0, b.1 env h.1, subst (IsValue Long) (sym (ap₂ (λ u v. u +ℤ v) (lift_one s t a.0 env) (lift_one s t b.0 env))) h.2)))
  keeps_step (Num-F.Sub a b) =
      subst Keeps (sym (n.rolls-Sub a.0 b.0)) (by_equations (n.Sub a.0 b.0) _ _ _ (has_sub s a.0 b.0) (lift_sub 1 a.0 b.0) (has_sub s (lift 1 a.0) (lift 1 b.0)) (λ env h.
      (a.1 env h.0, b.1 env h.1, subst (IsValue Long) (sym (ap₂ (λ u v. u -ℤ v) (lift_one s t a.0 env) (lift_one s t b.0 env))) h.2)))
  keeps_step (Num-F.Mul a b) =
      subst Keeps (sym (n.rolls-Mul a.0 b.0)) (by_equations (n.Mul a.0 b.0) _ _ _ (has_mul s a.0 b.0) (lift_mul 1 a.0 b.0) (has_mul s (lift 1 a.0) (lift 1 b.0)) (λ env h.
      (a.1 env h.0, b.1 env h.1, subst (IsValue Long) (sym (ap₂ (λ u v. u *ℤ v) (lift_one s t a.0 env) (lift_one s t b.0 env))) h.2)))
  keeps_step (Num-F.Div a b) =
      subst Keeps (sym (n.rolls-Div a.0 b.0)) (by_equations (n.Div a.0 b.0) _ _ _ (has_div s a.0 b.0) (lift_div 1 a.0 b.0) (has_div s (lift 1 a.0) (lift 1 b.0)) (λ env h.
      (a.1 env h.0, b.1 env h.1, subst (λ z. z ≢ pos 0) (sym (lift_one s t b.0 env)) h.2, subst (IsValue Long) (sym (ap₂ (λ u v. int_div u v) (lift_one s t a.0 env) (lift_one s t b.0 env))) h.3)))
  keeps_step (Num-F.Rem a b) =
      subst Keeps (sym (n.rolls-Rem a.0 b.0)) (by_equations (n.Rem a.0 b.0) _ _ _ (has_rem s a.0 b.0) (lift_rem 1 a.0 b.0) (has_rem s (lift 1 a.0) (lift 1 b.0)) (λ env h.
      (a.1 env h.0, b.1 env h.1, subst (λ z. z ≢ pos 0) (sym (lift_one s t b.0 env)) h.2)))
  keeps_step (Num-F.Min a b) =
      subst Keeps (sym (n.rolls-Min a.0 b.0)) (by_equations (n.Min a.0 b.0) _ _ _ (has_min s a.0 b.0) (lift_min 1 a.0 b.0) (has_min s (lift 1 a.0) (lift 1 b.0)) (λ env h.
      (a.1 env h.0, b.1 env h.1)))
  keeps_step (Num-F.Pick ks a) =
      subst Keeps (sym (n.rolls-Pick ks a.0)) (by_equations (n.Pick ks a.0) _ _ _ (has_pick s ks a.0) (lift_pick 1 ks a.0) (has_pick s ks (lift 1 a.0)) (λ env h.
      (a.1 env h.0, h.1, lift_one s t a.0 env ∙ h.2, h.3, h.4)))
  keeps_step Num-F.Children =
      subst Keeps (sym n.rolls-Children) (by_equations n.Children _ _ _ (has_children s) (lift_children 1) (has_children s) (λ env h. h))

  pub lift_has : (x : Num) → Keeps x
  lift_has = ind-Num Keeps (λ x y is. subst (λ z. Keeps (roll-Num z)) is (keeps_step y))

pub lifted_have_values : LiftedHaveValues
lifted_have_values s x t env = its_value s (at_turn env t) (lift 1 x) s env x (lift_one s t x env) (lift_has s t x env)
