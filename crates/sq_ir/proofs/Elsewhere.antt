-- A number has one value wherever the same loops stand round it.
use Rattle.std.proofs.Common.{◌≡◌, ℕ, ◌<◌, Bool, true, false, Some, None, ℤ, pos, ◌+ℤ◌, ◌-ℤ◌, ◌*ℤ◌, List, length, get_or, refl, sym, ap, ap₂, subst, ◌∙◌, if◌then◌else◌}
use Rattle.std.specs.Prelude.{◌≢◌, ◌||◌, int_div, int_rem, int_lt, nat_abs}
use Rattle.sq_num.specs.declared.Elem.TheVariants.{Long}
use Rattle.sq_num.specs.Elements.{IsValue}
use Rattle.sq_ir.specs.declared.num.Num.{Num, roll-Num}
use Rattle.sq_ir.specs.declared.num.Num.TheVariants as n
use Rattle.sq_ir.specs.declared.num.Num.TheOpen.{Num-F}
use Rattle.sq_ir.specs.declared.num.Num.TheFolds.{ind-Num, map-Num, fold-roll-Num}
use Rattle.sq_ir.specs.Written.{Setting, Env, Value, node_of, inside_of, value_of}
use Rattle.sq_ir.specs.Plans.{Asked, HasValue, placed}
use Rattle.sq_ir.specs.NumberLaws.{names_step, names_children, DependOnLoops, KeepInScopes, IgnoreOffsets}
use Rattle.sq_ir.proofs.Equations.{value_const, value_index, value_add, value_sub, value_mul, value_div, value_rem, value_min, value_pick, value_children}
use Rattle.sq_ir.proofs.Counting.{has_const, has_index, has_add, has_sub, has_mul, has_div, has_rem, has_min, has_pick, has_children}
use Rattle.sq_ir.proofs.Lifted.{its_value}

-- ---- which numbers name children

names_add : (a b : Num) → names_children (n.Add a b) ≡ (names_children a || names_children b)
names_add a b =
    ap names_children (sym (n.rolls-Add a b)) ∙ fold-roll-Num Bool names_step (Num-F.Add a b)

names_sub : (a b : Num) → names_children (n.Sub a b) ≡ (names_children a || names_children b)
names_sub a b =
    ap names_children (sym (n.rolls-Sub a b)) ∙ fold-roll-Num Bool names_step (Num-F.Sub a b)

names_mul : (a b : Num) → names_children (n.Mul a b) ≡ (names_children a || names_children b)
names_mul a b =
    ap names_children (sym (n.rolls-Mul a b)) ∙ fold-roll-Num Bool names_step (Num-F.Mul a b)

names_div : (a b : Num) → names_children (n.Div a b) ≡ (names_children a || names_children b)
names_div a b =
    ap names_children (sym (n.rolls-Div a b)) ∙ fold-roll-Num Bool names_step (Num-F.Div a b)

names_rem : (a b : Num) → names_children (n.Rem a b) ≡ (names_children a || names_children b)
names_rem a b =
    ap names_children (sym (n.rolls-Rem a b)) ∙ fold-roll-Num Bool names_step (Num-F.Rem a b)

names_min : (a b : Num) → names_children (n.Min a b) ≡ (names_children a || names_children b)
names_min a b =
    ap names_children (sym (n.rolls-Min a b)) ∙ fold-roll-Num Bool names_step (Num-F.Min a b)

names_pick : (ks : List ℤ) (a : Num) → names_children (n.Pick ks a) ≡ names_children a
names_pick ks a = ap names_children (sym (n.rolls-Pick ks a)) ∙ fold-roll-Num Bool names_step (Num-F.Pick ks a)

names_children_is : names_children n.Children ≡ true
names_children_is = ap names_children (sym n.rolls-Children) ∙ fold-roll-Num Bool names_step Num-F.Children

or_right : (u v : Bool) → v ≡ true → (u || v) ≡ true
or_right true v q = refl
or_right false v q = q

-- ---- the induction

module _ (s t : Setting) where
  abbrev Same : Num → Type 0
  Same x =
      (env inner : Env) → inner.turns ≡ env.turns → (names_children x ≡ true → t.children (node_of inner) ≡ s.children (node_of env))
      → (value_of t x inner ≡ value_of s x env) × (HasValue s x env → HasValue t x inner)

  abbrev K : Type 0
  K = (x : Num) × Same x

  val : (x : Num) (f g : Value) → value_of t x ≡ f → value_of s x ≡ g → (env inner : Env) → f inner ≡ g env → value_of t x inner ≡ value_of s x env
  val x f g e q env inner h = ap (λ k. k inner) e ∙ h ∙ sym (ap (λ k. k env) q)

  ask : (x : Num) (p q : Asked) → HasValue s x ≡ p → HasValue t x ≡ q → (env inner : Env) → (p env → q inner) → HasValue s x env → HasValue t x inner
  ask x p q e f env inner g h = subst (λ (r : Asked). r inner) (sym f) (g (subst (λ (r : Asked). r env) e h))

  -- the parts of a number of two parts
  abbrev Both : K → K → Env → Env → Type 0
  Both a b env inner =
      ((value_of t a.0 inner ≡ value_of s a.0 env) × (HasValue s a.0 env → HasValue t a.0 inner))
      × ((value_of t b.0 inner ≡ value_of s b.0 env) × (HasValue s b.0 env → HasValue t b.0 inner))

  both : (a b : K) (env inner : Env) → inner.turns ≡ env.turns
      → ((names_children a.0 || names_children b.0) ≡ true → t.children (node_of inner) ≡ s.children (node_of env)) → Both a b env inner
  both a b env inner e c = (
    a.1 env inner e (λ q. c (ap (λ v. v || names_children b.0) q)),
    b.1 env inner e (λ q. c (or_right (names_children a.0) (names_children b.0) q)),
  )

  same_step : (y : Num-F K) → Same (roll-Num (map-Num K Num (λ p. p.0) y))
  same_step (Num-F.Const k) = subst Same (sym (n.rolls-Const k)) (λ env inner e c. (
    val (n.Const k) _ _ (value_const t k) (value_const s k) env inner refl,
    ask (n.Const k) _ _ (has_const s k) (has_const t k) env inner (λ h. h),
  ))
  same_step (Num-F.Index d) = subst Same (sym (n.rolls-Index d)) (λ env inner e c. (
    val (n.Index d) _ _ (value_index t d) (value_index s d) env inner (ap (λ ts. pos (get_or ts d 0)) e),
    ask (n.Index d) _ _ (has_index s d) (has_index t d) env inner (λ h.
        subst (λ (ts : List ℕ). (d < length ts) × IsValue Long (pos (get_or ts d 0))) (sym e) h),
  ))
  same_step (Num-F.Add a b) = subst Same (sym (n.rolls-Add a.0 b.0)) (λ env inner e c.
      let x = both a b env inner e (λ q. c (names_add a.0 b.0 ∙ q)) in
      let v = ap₂ (λ u v. u +ℤ v) x.0.0 x.1.0 in (
        val (n.Add a.0 b.0) _ _ (value_add t a.0 b.0) (value_add s a.0 b.0) env inner v,
        ask (n.Add a.0 b.0) _ _ (has_add s a.0 b.0) (has_add t a.0 b.0) env inner (λ h.
            (x.0.1 h.0, x.1.1 h.1, subst (IsValue Long) (sym v) h.2)),
      ))
  same_step (Num-F.Sub a b) = subst Same (sym (n.rolls-Sub a.0 b.0)) (λ env inner e c.
      let x = both a b env inner e (λ q. c (names_sub a.0 b.0 ∙ q)) in
      let v = ap₂ (λ u v. u -ℤ v) x.0.0 x.1.0 in (
        val (n.Sub a.0 b.0) _ _ (value_sub t a.0 b.0) (value_sub s a.0 b.0) env inner v,
        ask (n.Sub a.0 b.0) _ _ (has_sub s a.0 b.0) (has_sub t a.0 b.0) env inner (λ h.
            (x.0.1 h.0, x.1.1 h.1, subst (IsValue Long) (sym v) h.2)),
      ))
  same_step (Num-F.Mul a b) = subst Same (sym (n.rolls-Mul a.0 b.0)) (λ env inner e c.
      let x = both a b env inner e (λ q. c (names_mul a.0 b.0 ∙ q)) in
      let v = ap₂ (λ u v. u *ℤ v) x.0.0 x.1.0 in (
        val (n.Mul a.0 b.0) _ _ (value_mul t a.0 b.0) (value_mul s a.0 b.0) env inner v,
        ask (n.Mul a.0 b.0) _ _ (has_mul s a.0 b.0) (has_mul t a.0 b.0) env inner (λ h.
            (x.0.1 h.0, x.1.1 h.1, subst (IsValue Long) (sym v) h.2)),
      ))
  same_step (Num-F.Div a b) = subst Same (sym (n.rolls-Div a.0 b.0)) (λ env inner e c.
      let x = both a b env inner e (λ q. c (names_div a.0 b.0 ∙ q)) in
      let v = ap₂ (λ u v. int_div u v) x.0.0 x.1.0 in (
        val (n.Div a.0 b.0) _ _ (value_div t a.0 b.0) (value_div s a.0 b.0) env inner v,
        ask (n.Div a.0 b.0) _ _ (has_div s a.0 b.0) (has_div t a.0 b.0) env inner (λ h.
            (x.0.1 h.0, x.1.1 h.1, subst (λ z. z ≢ pos 0) (sym x.1.0) h.2, subst (IsValue Long) (sym v) h.3)),
      ))
  same_step (Num-F.Rem a b) = subst Same (sym (n.rolls-Rem a.0 b.0)) (λ env inner e c.
      let x = both a b env inner e (λ q. c (names_rem a.0 b.0 ∙ q)) in (
        val (n.Rem a.0 b.0) _ _ (value_rem t a.0 b.0) (value_rem s a.0 b.0) env inner (ap₂ (λ u v. int_rem u v) x.0.0 x.1.0),
        ask (n.Rem a.0 b.0) _ _ (has_rem s a.0 b.0) (has_rem t a.0 b.0) env inner (λ h.
            (x.0.1 h.0, x.1.1 h.1, subst (λ z. z ≢ pos 0) (sym x.1.0) h.2)),
      ))
  same_step (Num-F.Min a b) = subst Same (sym (n.rolls-Min a.0 b.0)) (λ env inner e c.
      let x = both a b env inner e (λ q. c (names_min a.0 b.0 ∙ q)) in (
        val (n.Min a.0 b.0) _ _ (value_min t a.0 b.0) (value_min s a.0 b.0) env inner (ap₂ (λ u v. if int_lt v u then v else u) x.0.0 x.1.0),
        ask (n.Min a.0 b.0) _ _ (has_min s a.0 b.0) (has_min t a.0 b.0) env inner (λ h. (x.0.1 h.0, x.1.1 h.1)),
      ))
  same_step (Num-F.Pick ks a) = subst Same (sym (n.rolls-Pick ks a.0)) (λ env inner e c.
      let x = a.1 env inner e (λ q. c (names_pick ks a.0 ∙ q)) in (
        val (n.Pick ks a.0) _ _ (value_pick t ks a.0) (value_pick s ks a.0) env inner (ap (λ u. get_or ks (nat_abs u) (pos 0)) x.0),
        ask (n.Pick ks a.0) _ _ (has_pick s ks a.0) (has_pick t ks a.0) env inner (λ h. (x.1 h.0, h.1, x.0 ∙ h.2, h.3, h.4)),
      ))
  same_step Num-F.Children = subst Same (sym n.rolls-Children) (λ env inner e c.
      let v = c names_children_is in (
        val n.Children _ _ (value_children t) (value_children s) env inner (ap (λ k. pos k) v),
        ask n.Children _ _ (has_children s) (has_children t) env inner (λ h. subst (λ k. IsValue Long (pos k)) (sym v) h),
      ))

  pub same_value : (x : Num) → Same x
  same_value = ind-Num Same (λ x y is. subst (λ z. Same (roll-Num z)) is (same_step y))

pub depend_on_loops : DependOnLoops
depend_on_loops s t x env inner e c =
    let v = same_value s t x env inner e c in
    its_value t inner x s env x v.0 v.1

pub keep_in_scopes : KeepInScopes
keep_in_scopes s x env None h = depend_on_loops s s x env env refl (λ q. refl)
keep_in_scopes s x env (Some c) h = depend_on_loops s s x env (inside_of s env (Some c)) refl (λ q. let z = sym h ∙ q in cc)

pub ignore_offsets : IgnoreOffsets
ignore_offsets buffers nodes offset other x env =
    depend_on_loops (placed buffers nodes offset) (placed buffers nodes other) x env env refl (λ q. refl)
