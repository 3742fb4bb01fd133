-- A number under one more loop has its value in 64 bits where it had it.
use Rattle.std.proofs.Common.{◌≡◌, ◌≢◌, ℕ, suc, ◌+◌, ◌<◌, pos, ◌+ℤ◌, ◌-ℤ◌, ◌*ℤ◌, ◌∷◌, length, get_or, ap₂, sym, subst}
use Rattle.std.proofs.Common.{◌∙◌, arith}
use Rattle.std.specs.Prelude.{int_div}
use Rattle.sq_num.specs.declared.Elem.TheVariants.{Long}
use Rattle.sq_num.specs.Elements.{IsValue}
use Rattle.sq_ir.specs.declared.num.Num.{Num, roll-Num}
use Rattle.sq_ir.specs.declared.num.Num.TheVariants as n
use Rattle.sq_ir.specs.declared.num.Num.TheOpen.{Num-F}
use Rattle.sq_ir.specs.declared.num.Num.TheFolds.{ind-Num, map-Num}
use Rattle.sq_ir.specs.Lifting.{lift}
use Rattle.sq_ir.specs.Written.{Setting, Env, value_of, at_turn}
use Rattle.sq_ir.specs.Plans.{Asked, HasValue}
use Rattle.sq_ir.proofs.LiftEquations.{lift_const, lift_index, lift_add, lift_sub, lift_mul, lift_div, lift_rem}
use Rattle.sq_ir.proofs.LiftEquations.{lift_min, lift_pick, lift_children}
use Rattle.sq_ir.proofs.LiftOnce.{lift_one}
use Rattle.sq_ir.proofs.Counting.{has_const, has_index, has_add, has_sub, has_mul, has_div, has_rem, has_min, has_pick}
use Rattle.sq_ir.proofs.Counting.{has_children}

module _ (s : Setting) (t : ℕ) where
  abbrev Keeps : Num → Type 0
  Keeps x = (env : Env) → HasValue s x env → HasValue s (lift 1 x) (at_turn env t)

  abbrev K : Type 0
  K = (x : Num) × Keeps x

  -- by the equations of the number and of the lifted one
  by_equations : (x y : Num) (has asks : Asked) → lift 1 x ≡ y → HasValue s x ≡ has → HasValue s y ≡ asks
      → ((env : Env) → has env → asks (at_turn env t)) → Keeps x
  by_equations x y has asks l e q f env h =
      subst (λ z. HasValue s z (at_turn env t)) (sym l)
      (subst (λ (g : Asked). g (at_turn env t)) (sym q) (f env (subst (λ (g : Asked). g env) e h)))

  sum_so : (a b : Num) (env : Env) → value_of s a env +ℤ value_of s b env
      ≡ value_of s (lift 1 a) (at_turn env t) +ℤ value_of s (lift 1 b) (at_turn env t)
  sum_so a b env = ap₂ (λ u v. u +ℤ v) (sym (lift_one s t a env)) (sym (lift_one s t b env))

  less_so : (a b : Num) (env : Env) → value_of s a env -ℤ value_of s b env
      ≡ value_of s (lift 1 a) (at_turn env t) -ℤ value_of s (lift 1 b) (at_turn env t)
  less_so a b env = ap₂ (λ u v. u -ℤ v) (sym (lift_one s t a env)) (sym (lift_one s t b env))

  times_so : (a b : Num) (env : Env) → value_of s a env *ℤ value_of s b env
      ≡ value_of s (lift 1 a) (at_turn env t) *ℤ value_of s (lift 1 b) (at_turn env t)
  times_so a b env = ap₂ (λ u v. u *ℤ v) (sym (lift_one s t a env)) (sym (lift_one s t b env))

  part_so : (a b : Num) (env : Env) → int_div (value_of s a env) (value_of s b env)
      ≡ int_div (value_of s (lift 1 a) (at_turn env t)) (value_of s (lift 1 b) (at_turn env t))
  part_so a b env = ap₂ (λ u v. int_div u v) (sym (lift_one s t a env)) (sym (lift_one s t b env))

  not_so : (b : Num) (env : Env) → (value_of s b env ≢ pos 0) → value_of s (lift 1 b) (at_turn env t) ≢ pos 0
  not_so b env h e = h (sym (lift_one s t b env) ∙ e)

  keeps_step : (y : Num-F K) → Keeps (roll-Num (map-Num K Num (λ p. p.0) y))
  keeps_step (Num-F.Const k) = subst Keeps (sym (n.rolls-Const k))
      (by_equations _ _ _ _ (lift_const 1 k) (has_const s k) (has_const s k) (λ env h. h))
  keeps_step (Num-F.Index d) = subst Keeps (sym (n.rolls-Index d))
      (by_equations _ _ _ _ (lift_index 1 d) (has_index s d) (has_index s (d + 1)) (λ env h.
      let e : suc d ≡ d + 1 = omega arith in
      subst (λ (z : ℕ). (z < suc (length env.turns)) × IsValue Long (pos (get_or (t ∷ env.turns) z 0))) e
      (omega (arith, h.0), h.1)))
  keeps_step (Num-F.Add a b) = subst Keeps (sym (n.rolls-Add a.0 b.0))
      (by_equations _ _ _ _ (lift_add 1 a.0 b.0) (has_add s a.0 b.0) (has_add s (lift 1 a.0) (lift 1 b.0)) (λ env h.
      (a.1 env h.0, b.1 env h.1, subst (IsValue Long) (sum_so a.0 b.0 env) h.2)))
  keeps_step (Num-F.Sub a b) = subst Keeps (sym (n.rolls-Sub a.0 b.0))
      (by_equations _ _ _ _ (lift_sub 1 a.0 b.0) (has_sub s a.0 b.0) (has_sub s (lift 1 a.0) (lift 1 b.0)) (λ env h.
      (a.1 env h.0, b.1 env h.1, subst (IsValue Long) (less_so a.0 b.0 env) h.2)))
  keeps_step (Num-F.Mul a b) = subst Keeps (sym (n.rolls-Mul a.0 b.0))
      (by_equations _ _ _ _ (lift_mul 1 a.0 b.0) (has_mul s a.0 b.0) (has_mul s (lift 1 a.0) (lift 1 b.0)) (λ env h.
      (a.1 env h.0, b.1 env h.1, subst (IsValue Long) (times_so a.0 b.0 env) h.2)))
  keeps_step (Num-F.Div a b) = subst Keeps (sym (n.rolls-Div a.0 b.0))
      (by_equations _ _ _ _ (lift_div 1 a.0 b.0) (has_div s a.0 b.0) (has_div s (lift 1 a.0) (lift 1 b.0)) (λ env h.
      (a.1 env h.0, b.1 env h.1, not_so b.0 env h.2, subst (IsValue Long) (part_so a.0 b.0 env) h.3)))
  keeps_step (Num-F.Rem a b) = subst Keeps (sym (n.rolls-Rem a.0 b.0))
      (by_equations _ _ _ _ (lift_rem 1 a.0 b.0) (has_rem s a.0 b.0) (has_rem s (lift 1 a.0) (lift 1 b.0)) (λ env h.
      (a.1 env h.0, b.1 env h.1, not_so b.0 env h.2)))
  keeps_step (Num-F.Min a b) = subst Keeps (sym (n.rolls-Min a.0 b.0))
      (by_equations _ _ _ _ (lift_min 1 a.0 b.0) (has_min s a.0 b.0) (has_min s (lift 1 a.0) (lift 1 b.0)) (λ env h.
      (a.1 env h.0, b.1 env h.1)))
  keeps_step (Num-F.Pick ks a) = subst Keeps (sym (n.rolls-Pick ks a.0))
      (by_equations _ _ _ _ (lift_pick 1 ks a.0) (has_pick s ks a.0) (has_pick s ks (lift 1 a.0)) (λ env h.
      (a.1 env h.0, h.1, lift_one s t a.0 env ∙ h.2, h.3, h.4)))
  keeps_step Num-F.Children = subst Keeps (sym n.rolls-Children)
      (by_equations _ _ _ _ (lift_children 1) (has_children s) (has_children s) (λ env h. h))

  -- the number
  pub lift_has : (x : Num) → Keeps x
  lift_has = ind-Num Keeps (λ x y is. subst (λ z. Keeps (roll-Num z)) is (keeps_step y))
