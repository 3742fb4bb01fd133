-- What is left of a term, one equation for each variant; and of a term in which no action stands nothing is left.
use Rattle.std.proofs.Common.{◌≡◌, ℕ, zero, suc, Bool, true, false, ℤ, pos, negsuc, Option, List, [], ◌∷◌, map, refl, sym, ap, ◌∙◌, subst}
use Rattle.std.specs.Prelude.{if◌then◌else◌, ◌==◌, ◌||◌}
use Rattle.sq_text.specs.declared.spread.SpreadRule.{SpreadRule}
use Rattle.sq_text.specs.Spreading.{child_of}
use Rattle.sq_ir.specs.declared.num.Num.{Num}
use Rattle.sq_ir.specs.declared.term.Action.{Action}
use Rattle.sq_ir.specs.declared.term.Term.{Term, roll-Term}
use Rattle.sq_ir.specs.declared.term.Term.TheVariants as t
use Rattle.sq_ir.specs.declared.term.Term.TheOpen.{Term-F}
use Rattle.sq_ir.specs.declared.term.Term.TheFolds.{fold-roll-Term, ind-Term, map-Term}
use Rattle.sq_sched.specs.Acts.{any, acts}
use Rattle.sq_sched.proofs.Acting.{acts_act, acts_seq, acts_par, acts_loop, acts_spread, acts_case, acts_within}
use Rattle.sq_planfile.specs.declared.left.Left.{Left}
use Rattle.sq_planfile.specs.declared.left.Left.TheVariants.{Nothing}
use Rattle.sq_planfile.specs.Left.{then_seq, then_par, scope}
use Rattle.sq_planfile.specs.Written.{Reading, seq_parts, par_parts, arm_of, arm_at, turn_at, left_step, left_by}
use Rattle.sq_planfile.proofs.Joins.{seq_of_nothing, par_of_nothing, no_scope}

either_false : (x y : Bool) → (x || y) ≡ false → (x ≡ false) × (y ≡ false)
either_false false y h = (refl, h)
either_false true y h = absurd (cc)

module _ {At : Type 0} (r : Reading At) where
  pub left_skip : left_by r t.Skip ≡ left_step r Term-F.Skip
  left_skip = ap (left_by r) (sym t.rolls-Skip) ∙ fold-roll-Term (At → Left) (left_step r) Term-F.Skip

  pub left_act : (a : Action) → left_by r (t.Act a) ≡ left_step r (Term-F.Act a)
  left_act a = ap (left_by r) (sym (t.rolls-Act a)) ∙ fold-roll-Term (At → Left) (left_step r) (Term-F.Act a)

  pub left_seq : (ts : List Term) → left_by r (t.Seq ts) ≡ left_step r (Term-F.Seq (map (left_by r) ts))
  left_seq ts = ap (left_by r) (sym (t.rolls-Seq ts)) ∙ fold-roll-Term (At → Left) (left_step r) (Term-F.Seq ts)

  pub left_par : (ts : List Term) → left_by r (t.Par ts) ≡ left_step r (Term-F.Par (map (left_by r) ts))
  left_par ts = ap (left_by r) (sym (t.rolls-Par ts)) ∙ fold-roll-Term (At → Left) (left_step r) (Term-F.Par ts)

  pub left_loop : (n : Num) (b : Term) → left_by r (t.Loop n b) ≡ left_step r (Term-F.Loop n (left_by r b))
  left_loop n b = ap (left_by r) (sym (t.rolls-Loop n b)) ∙ fold-roll-Term (At → Left) (left_step r) (Term-F.Loop n b)

  pub left_spread : (n : Num) (rule : SpreadRule) (b : Term) → left_by r (t.Spread n rule b) ≡ left_step r (Term-F.Spread n rule (left_by r b))
  left_spread n rule b = ap (left_by r) (sym (t.rolls-Spread n rule b)) ∙ fold-roll-Term (At → Left) (left_step r) (Term-F.Spread n rule b)

  pub left_case : (n : Num) (ts : List Term) → left_by r (t.Case n ts) ≡ left_step r (Term-F.Case n (map (left_by r) ts))
  left_case n ts = ap (left_by r) (sym (t.rolls-Case n ts)) ∙ fold-roll-Term (At → Left) (left_step r) (Term-F.Case n ts)

  pub left_within : (c : Option Num) (bs : List ℕ) (b : Term) → left_by r (t.Within c bs b) ≡ left_step r (Term-F.Within c bs (left_by r b))
  left_within c bs b = ap (left_by r) (sym (t.rolls-Within c bs b)) ∙ fold-roll-Term (At → Left) (left_step r) (Term-F.Within c bs b)

  -- ---- nothing is left

  abbrev Empty : Term → Type 0
  Empty x = acts x ≡ false → (at : At) → left_by r x at ≡ Nothing

  abbrev K : Type 0
  K = (x : Term) × Empty x

  abbrev terms : List K → List Term
  terms ys = map (λ p. p.0) ys

  seq_none : (ys : List K) → any (map acts (terms ys)) ≡ false → (at : At) → seq_parts (map (left_by r) (terms ys)) at ≡ Nothing
  seq_none [] h at = refl
  seq_none (y ∷ ys) h at =
      let e = either_false (acts y.0) (any (map acts (terms ys))) h in
      ap (λ a. then_seq a (seq_parts (map (left_by r) (terms ys)) at)) (y.1 e.0 at) ∙ seq_none ys e.1 at

  par_none : (ys : List K) → any (map acts (terms ys)) ≡ false → (at : At) → par_parts (map (left_by r) (terms ys)) at ≡ Nothing
  par_none [] h at = refl
  par_none (y ∷ ys) h at =
      let e = either_false (acts y.0) (any (map acts (terms ys))) h in
      ap (λ a. then_par a (par_parts (map (left_by r) (terms ys)) at)) (y.1 e.0 at) ∙ par_none ys e.1 at

  arm_none : (ys : List K) → any (map acts (terms ys)) ≡ false → (k : ℕ) (at : At) → arm_of (map (left_by r) (terms ys)) k at ≡ Nothing
  arm_none [] h k at = refl
  arm_none (y ∷ ys) h zero at = y.1 (either_false (acts y.0) (any (map acts (terms ys))) h).0 at
  arm_none (y ∷ ys) h (suc k) at = arm_none ys (either_false (acts y.0) (any (map acts (terms ys))) h).1 k at

  arms_none : (ys : List K) → any (map acts (terms ys)) ≡ false → (z : ℤ) (at : At) → arm_at (map (left_by r) (terms ys)) z at ≡ Nothing
  arms_none ys h (pos k) at = arm_none ys h k at
  arms_none ys h (negsuc k) at = refl

  pub turn_none : (rule : SpreadRule) (n m : ℕ) (f : At → Left) (at : At) (c u : ℕ) → f (r.turn at u) ≡ Nothing → turn_at r rule n m f at c u ≡ Nothing
  turn_none rule n m f at c u h = by (child_of rule n m u == c)
    where
      by : (v : Bool) → (if v then f (r.turn at u) else Nothing) ≡ Nothing
      by true = h
      by false = refl

  empty_step : (y : Term-F K) → Empty (roll-Term (map-Term K Term (λ p. p.0) y))
  empty_step Term-F.Skip = subst Empty (sym t.rolls-Skip) (λ h at. ap (λ f. f at) left_skip)
  empty_step (Term-F.Act a) = subst Empty (sym (t.rolls-Act a)) (λ h at. let z = sym (acts_act a) ∙ h in absurd (cc))
  empty_step (Term-F.Seq ys) = subst Empty (sym (t.rolls-Seq (terms ys))) (λ h at. ap (λ f. f at) (left_seq (terms ys)) ∙ seq_none ys (sym (acts_seq (terms ys)) ∙ h) at)
  empty_step (Term-F.Par ys) = subst Empty (sym (t.rolls-Par (terms ys))) (λ h at. ap (λ f. f at) (left_par (terms ys)) ∙ par_none ys (sym (acts_par (terms ys)) ∙ h) at)
  empty_step (Term-F.Loop n y) = subst Empty (sym (t.rolls-Loop n y.0)) (λ h at. ap (λ f. f at) (left_loop n y.0)
      ∙ seq_of_nothing (r.count n at) (λ u. left_by r y.0 (r.turn at u)) 0 (λ u. y.1 (sym (acts_loop n y.0) ∙ h) (r.turn at u)))
  empty_step (Term-F.Spread n rule y) = subst Empty (sym (t.rolls-Spread n rule y.0)) (λ h at.
      let k = r.count n at in
      let m = r.children at in
      ap (λ f. f at) (left_spread n rule y.0)
      ∙ par_of_nothing m _ 0 (λ c. seq_of_nothing k (turn_at r rule k m (left_by r y.0) at c) 0 (λ u. turn_none rule k m (left_by r y.0) at c u (y.1 (sym (acts_spread n rule y.0) ∙ h) (r.turn at u)))))
  empty_step (Term-F.Case n ys) = subst Empty (sym (t.rolls-Case n (terms ys))) (λ h at. ap (λ f. f at) (left_case n (terms ys)) ∙ arms_none ys (sym (acts_case n (terms ys)) ∙ h) (r.value n at) at)
  empty_step (Term-F.Within c bs y) = subst Empty (sym (t.rolls-Within c bs y.0)) (λ h at. ap (λ f. f at) (left_within c bs y.0)
      ∙ ap (scope (r.node at) (r.node (r.inside c at)) bs) (y.1 (sym (acts_within c bs y.0) ∙ h) (r.inside c at)) ∙ no_scope (r.node at) (r.node (r.inside c at)) bs)

  pub no_action : (x : Term) → Empty x
  no_action = ind-Term Empty (λ x y is. subst (λ z. Empty (roll-Term z)) is (empty_step y))
