-- A term in which no action stands is written out to nothing, and its sizes say that none stands in it.
use Rattle.std.proofs.Common.{◌≡◌, ℕ, zero, suc, ◌+◌, Bool, true, false, Option, List, [], ◌∷◌, length, get_or, map, refl, sym, ap, ◌∙◌, subst, arith, ◌≤◌, ◌<◌}
use Rattle.std.specs.Prelude.{◌||◌, if◌then◌else◌, ◌==◌}
use Rattle.sq_text.specs.declared.spread.SpreadRule.{SpreadRule}
use Rattle.sq_text.specs.Spreading.{child_of}
use Rattle.sq_ir.specs.Tree.{Skip, is_done, par, within}
use Rattle.sq_ir.specs.Events.{Event}
use Rattle.sq_ir.specs.Scopes.{Scope}
use Rattle.sq_ir.specs.Written.{PlanTree}
use Rattle.sq_ir.specs.declared.num.Num.{Num}
use Rattle.sq_ir.specs.declared.term.Action.{Action}
use Rattle.sq_ir.specs.declared.term.Term.{Term, roll-Term}
use Rattle.sq_ir.specs.declared.term.Term.TheVariants as t
use Rattle.sq_ir.specs.declared.term.Term.TheOpen.{Term-F}
use Rattle.sq_ir.specs.declared.term.Term.TheFolds.{fold-roll-Term, ind-Term, map-Term}
use Rattle.sq_ir.specs.declared.plan.Plan.{Plan}
use Rattle.sq_sched.specs.Shapes.{Shape, Nothing, seq_of, par_of, written}
use Rattle.sq_sched.specs.Words.{Env, at_turn, node_here, value, count, children_at}
use Rattle.sq_sched.specs.Forms.{has_arm, inside, under, nothing, scope_form, turn_form, made, acts_in, any_acts, Passed, turns_of}
use Rattle.sq_sched.specs.declared.frame.Frame.{Frame}
use Rattle.sq_sched.specs.declared.frames.Spread.{Spread}
use Rattle.sq_sched.specs.Children as children
use Rattle.sq_sched.specs.Children.{is_at, Next}
use Rattle.sq_sched.proofs.Strands.{seq_of-done}
use Rattle.sq_sched.proofs.Begins.{passed_none, passed_there}
use Rattle.sq_sched.proofs.Made.{acts-sized, made-Skip, made-Act, made-Seq, made-Par, made-Loop, made-Spread, made-Case, made-Within}
use Rattle.sq_sched.specs.declared.sizes.Sizes.{Sizes}
use Rattle.sq_sched.specs.Acts.{any, acts_step, acts}

-- ---- the equations, one for each variant

pub acts_skip : acts t.Skip ≡ acts_step Term-F.Skip
acts_skip = ap acts (sym t.rolls-Skip) ∙ fold-roll-Term Bool acts_step Term-F.Skip

pub acts_act : (a : Action) → acts (t.Act a) ≡ acts_step (Term-F.Act a)
acts_act a = ap acts (sym (t.rolls-Act a)) ∙ fold-roll-Term Bool acts_step (Term-F.Act a)

pub acts_seq : (ts : List Term) → acts (t.Seq ts) ≡ acts_step (Term-F.Seq (map acts ts))
acts_seq ts = ap acts (sym (t.rolls-Seq ts)) ∙ fold-roll-Term Bool acts_step (Term-F.Seq ts)

pub acts_par : (ts : List Term) → acts (t.Par ts) ≡ acts_step (Term-F.Par (map acts ts))
acts_par ts = ap acts (sym (t.rolls-Par ts)) ∙ fold-roll-Term Bool acts_step (Term-F.Par ts)

pub acts_loop : (c : Num) (b : Term) → acts (t.Loop c b) ≡ acts_step (Term-F.Loop c (acts b))
acts_loop c b = ap acts (sym (t.rolls-Loop c b)) ∙ fold-roll-Term Bool acts_step (Term-F.Loop c b)

pub acts_spread : (c : Num) (r : SpreadRule) (b : Term) → acts (t.Spread c r b) ≡ acts_step (Term-F.Spread c r (acts b))
acts_spread c r b = ap acts (sym (t.rolls-Spread c r b)) ∙ fold-roll-Term Bool acts_step (Term-F.Spread c r b)

pub acts_case : (k : Num) (ts : List Term) → acts (t.Case k ts) ≡ acts_step (Term-F.Case k (map acts ts))
acts_case k ts = ap acts (sym (t.rolls-Case k ts)) ∙ fold-roll-Term Bool acts_step (Term-F.Case k ts)

pub acts_within : (c : Option Num) (bs : List ℕ) (b : Term) → acts (t.Within c bs b) ≡ acts_step (Term-F.Within c bs (acts b))
acts_within c bs b = ap acts (sym (t.rolls-Within c bs b)) ∙ fold-roll-Term Bool acts_step (Term-F.Within c bs b)

pub ruleset acts_forms = (acts_skip, acts_act, acts_seq, acts_par, acts_loop, acts_spread, acts_case, acts_within)

-- ---- nothing is written out

-- rows of nothing
pub seq-none : (n : ℕ) (f : ℕ → PlanTree) (s : ℕ) → ((u : ℕ) → f u ≡ Skip) → seq_of n f s ≡ Skip
seq-none n f s h = seq_of-done n f s (λ u p q. ap is_done (h u))

pub par-none : (n : ℕ) (f : ℕ → PlanTree) (s : ℕ) → ((u : ℕ) → f u ≡ Skip) → par_of n f s ≡ Skip
par-none zero f s h = refl
par-none (suc n) f s h = ap (λ x. par x (par_of n f (s + 1))) (h s) ∙ par-none n f (s + 1) h

either-false : (x y : Bool) → (x || y) ≡ false → (x ≡ false) × (y ≡ false)
either-false false y h = (refl, h)
either-false true y h = absurd (cc)

module _ (plan : Plan) where
  abbrev Empty : Term → Type 0
  Empty x = acts x ≡ false → (env : Env) → written ((made plan x).form env) ≡ Skip

  abbrev K : Type 0
  K = (x : Term) × Empty x

  abbrev terms : List K → List Term
  terms ys = map (λ p. p.0) ys

  item-none : (ys : List K) → any (map acts (terms ys)) ≡ false → (env : Env) (i : ℕ) → written ((get_or (map (made plan) (terms ys)) i nothing).form env) ≡ Skip
  item-none [] h env i = refl
  item-none (y ∷ ys) h env zero = y.1 (either-false (acts y.0) (any (map acts (terms ys))) h).0 env
  item-none (y ∷ ys) h env (suc i) = item-none ys (either-false (acts y.0) (any (map acts (terms ys))) h).1 env i

  turn-none : (rule : SpreadRule) (n m : ℕ) (x : K) → acts x.0 ≡ false → (env : Env) (c u : ℕ) → written (turn_form rule n m (made plan x.0).form env c u) ≡ Skip
  turn-none rule n m x h env c u = by (child_of rule n m u == c)
    where
      by : (v : Bool) → written (if v then (made plan x.0).form (at_turn env u) else Nothing) ≡ Skip
      by true = x.1 h (at_turn env u)
      by false = refl

  scope-none : (node : ℕ) (bs : List ℕ) (f : Shape Event Scope) → written f ≡ Skip → written (scope_form node bs f) ≡ Skip
  scope-none node [] f h = seq-none 1 (λ u. written f) 0 (λ u. h)
  scope-none node (b ∷ bs) f h = ap (within (record { node = node; buffers = b ∷ bs })) h

  empty-step : (y : Term-F K) → Empty (roll-Term (map-Term K Term (λ p. p.0) y))
  empty-step Term-F.Skip = subst Empty (sym t.rolls-Skip) (λ h env. ap (λ m. written (m.form env)) (made-Skip plan))
  empty-step (Term-F.Act a) = subst Empty (sym (t.rolls-Act a)) (λ h env. let z = sym (acts_act a) ∙ h in absurd (cc))
  empty-step (Term-F.Seq ys) = subst Empty (sym (t.rolls-Seq (terms ys))) (λ h env. ap (λ m. written (m.form env)) (made-Seq plan (terms ys))
      ∙ seq-none (length (map (made plan) (terms ys))) (λ i. written ((get_or (map (made plan) (terms ys)) i nothing).form env)) 0 (item-none ys (sym (acts_seq (terms ys)) ∙ h) env))
  empty-step (Term-F.Par ys) = subst Empty (sym (t.rolls-Par (terms ys))) (λ h env. ap (λ m. written (m.form env)) (made-Par plan (terms ys))
      ∙ par-none (length (map (made plan) (terms ys))) (λ c. seq_of 1 (λ u. written ((get_or (map (made plan) (terms ys)) c nothing).form env)) 0) 0 (λ c. seq-none 1 (λ u. written ((get_or (map (made plan) (terms ys)) c nothing).form env)) 0 (λ u. item-none ys (sym (acts_par (terms ys)) ∙ h) env c)))
  empty-step (Term-F.Loop n y) = subst Empty (sym (t.rolls-Loop n y.0)) (λ h env. ap (λ m. written (m.form env)) (made-Loop plan n y.0)
      ∙ seq-none (count plan n env) (λ u. written ((made plan y.0).form (at_turn env u))) 0 (λ u. y.1 (sym (acts_loop n y.0) ∙ h) (at_turn env u)))
  empty-step (Term-F.Spread n r y) = subst Empty (sym (t.rolls-Spread n r y.0)) (λ h env.
      let k = count plan n env in
      let m = children_at plan env in
      let f : ℕ → ℕ → PlanTree = λ c u. written (turn_form r k m (made plan y.0).form env c u) in
      ap (λ m. written (m.form env)) (made-Spread plan n r y.0)
      ∙ par-none m (λ c. seq_of k (f c) 0) 0 (λ c. seq-none k (f c) 0 (turn-none r k m y (sym (acts_spread n r y.0) ∙ h) env c)))
  empty-step (Term-F.Case n ys) = subst Empty (sym (t.rolls-Case n (terms ys))) (λ h env.
      let ms = map (made plan) (terms ys) in
      ap (λ m. written (m.form env)) (made-Case plan n (terms ys))
      ∙ seq-none (if has_arm (value plan n env) (length ms) then 1 else 0) (λ u. written ((get_or ms (count plan n env) nothing).form env)) 0 (λ u. item-none ys (sym (acts_case n (terms ys)) ∙ h) env (count plan n env)))
  empty-step (Term-F.Within c bs y) = subst Empty (sym (t.rolls-Within c bs y.0)) (λ h env. ap (λ m. written (m.form env)) (made-Within plan c bs y.0)
      ∙ scope-none (node_here (inside plan c env)) bs ((made plan y.0).form (inside plan c env)) (y.1 (sym (acts_within c bs y.0) ∙ h) (inside plan c env)))

  pub no-action : (x : Term) → Empty x
  no-action = ind-Term Empty (λ x y is. subst (λ z. Empty (roll-Term z)) is (empty-step y))

-- ---- the sizes say it

module _ (plan : Plan) where
  abbrev Says : Term → Type 0
  Says x = (fans : List ℕ) → acts_in ((made plan x).sizes fans) ≡ acts x

  abbrev S : Type 0
  S = (x : Term) × Says x

  abbrev parts : List S → List Term
  parts ys = map (λ p. p.0) ys

  any-acts : (ys : List S) (fans : List ℕ) → any_acts (map (λ m. m.sizes fans) (map (made plan) (parts ys))) ≡ any (map acts (parts ys))
  any-acts [] fans = refl
  any-acts (y ∷ ys) fans = ap (λ a. a || any_acts (map (λ m. m.sizes fans) (map (made plan) (parts ys)))) (y.1 fans) ∙ ap (λ b. acts y.0 || b) (any-acts ys fans)

  says-step : (y : Term-F S) → Says (roll-Term (map-Term S Term (λ p. p.0) y))
  says-step Term-F.Skip = subst Says (sym t.rolls-Skip) (λ fans. ap (λ m. acts_in (m.sizes fans)) (made-Skip plan) ∙ acts-sized _ _ _ ∙ sym acts_skip)
  says-step (Term-F.Act a) = subst Says (sym (t.rolls-Act a)) (λ fans. ap (λ m. acts_in (m.sizes fans)) (made-Act plan a) ∙ acts-sized _ _ _ ∙ sym (acts_act a))
  says-step (Term-F.Seq ys) = subst Says (sym (t.rolls-Seq (parts ys))) (λ fans. ap (λ m. acts_in (m.sizes fans)) (made-Seq plan (parts ys)) ∙ acts-sized _ _ _ ∙ any-acts ys fans ∙ sym (acts_seq (parts ys)))
  says-step (Term-F.Par ys) = subst Says (sym (t.rolls-Par (parts ys))) (λ fans. ap (λ m. acts_in (m.sizes fans)) (made-Par plan (parts ys)) ∙ acts-sized _ _ _ ∙ any-acts ys fans ∙ sym (acts_par (parts ys)))
  says-step (Term-F.Loop n y) = subst Says (sym (t.rolls-Loop n y.0)) (λ fans. ap (λ m. acts_in (m.sizes fans)) (made-Loop plan n y.0) ∙ acts-sized _ _ _ ∙ y.1 fans ∙ sym (acts_loop n y.0))
  says-step (Term-F.Spread n r y) = subst Says (sym (t.rolls-Spread n r y.0)) (λ fans. ap (λ m. acts_in (m.sizes fans)) (made-Spread plan n r y.0) ∙ acts-sized _ _ _ ∙ y.1 fans ∙ sym (acts_spread n r y.0))
  says-step (Term-F.Case n ys) = subst Says (sym (t.rolls-Case n (parts ys))) (λ fans. ap (λ m. acts_in (m.sizes fans)) (made-Case plan n (parts ys)) ∙ acts-sized _ _ _ ∙ any-acts ys fans ∙ sym (acts_case n (parts ys)))
  says-step (Term-F.Within c bs y) = subst Says (sym (t.rolls-Within c bs y.0)) (λ fans. ap (λ m. acts_in (m.sizes fans)) (made-Within plan c bs y.0) ∙ acts-sized _ _ _ ∙ y.1 (under c fans) ∙ sym (acts_within c bs y.0))

  pub acts-are : (x : Term) → Says x
  acts-are = ind-Term Says (λ x y is. subst (λ z. Says (roll-Term z)) is (says-step y))

-- ---- iterations that are nothing are passed by

module _ (plan : Plan) (b : Term) (s : Sizes) (env : Env) (fans : List ℕ) (fs : List Frame) (p w from : ℕ) where
  idle : s ≡ (made plan b).sizes fans → acts_in s ≡ false → acts b ≡ false
  idle es e = sym (acts-are plan b fans) ∙ ap acts_in (sym es) ∙ e

  pub passed_turns : s ≡ (made plan b).sizes fans → (n : ℕ) → from ≤ n → (a : Bool) → acts_in s ≡ a
      → Passed n (turns_of plan b env) fs fs p w from (if a then from else n)
  passed_turns es n le true e = passed_none n (turns_of plan b env) fs p w from le
  passed_turns es n le false e = record {
    low = le;
    high = omega arith;
    skipped = λ j l u. ap is_done (no-action plan b (idle es e) (at_turn env j));
    kept = λ j o. refl;
    same = refl;
  }

  pub passed_children : s ≡ (made plan b).sizes fans → (x : Spread) (c u : ℕ) → from ≤ x.turns
      → (acts_in s ≡ true → Next x c from u) → (acts_in s ≡ false → u ≡ x.turns)
      → Passed x.turns (children.items x (made plan b).form env c) fs fs p w from u × (u < x.turns → is_at x c u ≡ true)
  passed_children es x c u le some none = by (acts_in s) refl
    where
      item : ℕ → Shape Event Scope
      item = children.items x (made plan b).form env c

      by : (a : Bool) → acts_in s ≡ a → Passed x.turns item fs fs p w from u × (u < x.turns → is_at x c u ≡ true)
      by true e = let next = some e in (passed_there x (made plan b).form env c fs fs p w from from u (passed_none x.turns item fs p w from le) next, next.here)
      by false e =
          let is = none e in (
            subst (Passed x.turns item fs fs p w from) (sym is) (record {
              low = le;
              high = omega arith;
              skipped = λ j l less. ap is_done (turn-none plan x.rule x.turns x.children (b, no-action plan b) (idle es e) env c j);
              kept = λ j o. refl;
              same = refl;
            }),
            λ less. absurd (omega (arith, is)),
          )
