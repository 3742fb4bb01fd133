-- What is left of a term has its tree, variant by variant.
use Rattle.std.proofs.Common.{◌≡◌, ℕ, zero, suc, ◌+◌, ◌<◌, ◌≤◌, ◌==◌, ℤ, pos, negsuc, Option, List, [], ◌∷◌, ◌++◌, map, refl, sym, ap, ◌∙◌, subst, arith}
use Rattle.sq_text.specs.declared.spread.SpreadRule.{SpreadRule}
use Rattle.sq_text.specs.Spreading.{child_of}
use Rattle.sq_ir.specs.declared.num.Num.{Num}
use Rattle.sq_ir.specs.declared.term.Term.{Term, roll-Term}
use Rattle.sq_ir.specs.declared.term.Term.TheVariants as term
use Rattle.sq_ir.specs.declared.term.Term.TheOpen.{Term-F}
use Rattle.sq_ir.specs.declared.term.Term.TheFolds.{ind-Term, map-Term}
use Rattle.sq_ir.specs.declared.plan.Plan.{Plan}
use Rattle.sq_ir.specs.Machines.{AreNodes}
use Rattle.sq_ir.specs.Written.{Setting, Env, PlanTree, Part, node_of, at_turn, value_of, count_of, inside_of, seq_parts, par_parts, seq_of, par_of, arm_of, arm_at, scoped, turn_at, written}
use Rattle.sq_ir.specs.Plans.{AskedOfActions, AskedOfTerms, each_part, this_arm, Meets, setting_of}
use Rattle.sq_ir.proofs.Equations.{written_skip, written_act, written_seq, written_par, written_loop, written_spread, written_case, written_within}
use Rattle.sq_ir.proofs.Meeting.{meets_skip, meets_act, meets_seq, meets_par, meets_loop, meets_spread, meets_case, meets_within}
use Rattle.sq_sched.specs.Words as words
use Rattle.sq_sched.proofs.Agreeing.{Agree, agree-turn}
use Rattle.sq_planfile.specs.declared.left.Left.{Left}
use Rattle.sq_planfile.specs.Left.{scope}
use Rattle.sq_planfile.specs.Written as left
use Rattle.sq_planfile.specs.Written.{reading_of, left_of}
use Rattle.sq_planfile.proofs.Forms.{left_skip, left_act, left_seq, left_par, left_loop, left_spread, left_case, left_within}
use Rattle.sq_written_laws.specs.Alike.{straight, AreAlike}
use Rattle.sq_written_laws.proofs.Rows.{bare, left_tree, then_left, beside_left, seq_of_left, par_of_left, either_left, act_left, within_left, agree_inside}

module _ (p : Plan) (are : AreNodes p.nodes) (asked : AskedOfActions) where
  abbrev S : Setting
  S = setting_of p

  abbrev Holds : Term → Type 0
  Holds x = (env : Env) (at : words.Env) (bs : List ℕ) → Agree p env at → Meets S asked x env bs → AreAlike (written S x env) (left_tree p (left_of S x env) (bare env))

  abbrev M : Type 0
  M = (x : Term) × Holds x

  abbrev terms : List M → List Term
  terms xs = map (λ m. m.0) xs

  seq_terms : (xs : List M) (env : Env) (at : words.Env) (bs : List ℕ) → Agree p env at → each_part (Meets S asked) (terms xs) env bs
      → AreAlike (seq_parts (map (written S) (terms xs)) env) (left_tree p (left.seq_parts (map (left_of S) (terms xs)) env) (bare env))
  seq_terms [] env at bs ag h = refl
  seq_terms (m ∷ xs) env at bs ag h =
      then_left p (written S m.0 env) (seq_parts (map (written S) (terms xs)) env) (left_of S m.0 env) (left.seq_parts (map (left_of S) (terms xs)) env) (bare env)
      (m.1 env at bs ag h.0) (seq_terms xs env at bs ag h.1)

  par_terms : (xs : List M) (env : Env) (at : words.Env) (bs : List ℕ) → Agree p env at → each_part (Meets S asked) (terms xs) env bs
      → AreAlike (par_parts (map (written S) (terms xs)) env) (left_tree p (left.par_parts (map (left_of S) (terms xs)) env) (bare env))
  par_terms [] env at bs ag h = refl
  par_terms (m ∷ xs) env at bs ag h =
      beside_left p (written S m.0 env) (par_parts (map (written S) (terms xs)) env) (left_of S m.0 env) (left.par_parts (map (left_of S) (terms xs)) env) (bare env)
      (m.1 env at bs ag h.0) (par_terms xs env at bs ag h.1)

  arm_terms : (xs : List M) (k : ℕ) (env : Env) (at : words.Env) (bs : List ℕ) → Agree p env at → this_arm (Meets S asked) (terms xs) (pos k) env bs
      → AreAlike (arm_of (map (written S) (terms xs)) k env) (left_tree p (left.arm_of (map (left_of S) (terms xs)) k env) (bare env))
  arm_terms [] k env at bs ag h = refl
  arm_terms (m ∷ xs) zero env at bs ag h = m.1 env at bs ag h
  arm_terms (m ∷ xs) (suc k) env at bs ag h = arm_terms xs k env at bs ag h

  arms_terms : (xs : List M) (z : ℤ) (env : Env) (at : words.Env) (bs : List ℕ) → Agree p env at → this_arm (Meets S asked) (terms xs) z env bs
      → AreAlike (arm_at (map (written S) (terms xs)) z env) (left_tree p (left.arm_at (map (left_of S) (terms xs)) z env) (bare env))
  arms_terms xs (pos k) env at bs ag h = arm_terms xs k env at bs ag h
  arms_terms xs (negsuc k) env at bs ag h = refl

  turns_left : (n : Num) (m : M) (env : Env) (at : words.Env) (bs : List ℕ) → Agree p env at → ((t : ℕ) → t < count_of S n env → Meets S asked m.0 (at_turn env t) bs)
      → AreAlike (seq_of (count_of S n env) (λ t. written S m.0 (at_turn env t)) 0) (left_tree p (left.seq_of (count_of S n env) (λ t. left_of S m.0 (at_turn env t)) 0) (bare env))
  turns_left n m env at bs ag h =
      seq_of_left p (count_of S n env) (λ t. written S m.0 (at_turn env t)) (λ t. left_of S m.0 (at_turn env t)) 0 (bare env)
      (λ t lo hi. m.1 (at_turn env t) (words.at_turn at t) bs (agree-turn p env at t ag) (h t (omega (arith, hi))))

  spread_left : (n : Num) (rule : SpreadRule) (m : M) (env : Env) (at : words.Env) (bs : List ℕ) → Agree p env at → ((t : ℕ) → t < count_of S n env → Meets S asked m.0 (at_turn env t) bs)
      → AreAlike (par_of (S.children (node_of env)) (λ c. seq_of (count_of S n env) (turn_at S rule (count_of S n env) (written S m.0) env c) 0) 0)
      (left_tree p (left.par_of (S.children (node_of env)) (λ c. left.seq_of (count_of S n env) (left.turn_at (reading_of S) rule (count_of S n env) (S.children (node_of env)) (left_of S m.0) env c) 0) 0) (bare env))
  spread_left n rule m env at bs ag h =
      let k = count_of S n env in
      let children = S.children (node_of env) in
      par_of_left p children (λ c. seq_of k (turn_at S rule k (written S m.0) env c) 0) (λ c. left.seq_of k (left.turn_at (reading_of S) rule k children (left_of S m.0) env c) 0) 0 (bare env)
      (λ c. seq_of_left p k (turn_at S rule k (written S m.0) env c) (left.turn_at (reading_of S) rule k children (left_of S m.0) env c) 0 (bare env)
      (λ t lo hi. either_left p (child_of rule k children t == c) (written S m.0 (at_turn env t)) (left_of S m.0 (at_turn env t)) (bare env)
      (m.1 (at_turn env t) (words.at_turn at t) bs (agree-turn p env at t ag) (h t (omega (arith, hi))))))

  by_equations : (x : Term) (m : AskedOfTerms) (w : Part) (l : Env → Left) → Meets S asked x ≡ m → written S x ≡ w → left_of S x ≡ l
      → ((env : Env) (at : words.Env) (bs : List ℕ) → Agree p env at → m env bs → AreAlike (w env) (left_tree p (l env) (bare env))) → Holds x
  by_equations x m w l e q r h env at bs ag met =
      ap (λ f. straight (f env)) q ∙ h env at bs ag (subst (λ (f : AskedOfTerms). f env bs) e met) ∙ ap (λ f. straight (left_tree p (f env) (bare env))) (sym r)

  step : (y : Term-F M) → Holds (roll-Term (map-Term M Term (λ m. m.0) y))
  step Term-F.Skip = subst Holds (sym term.rolls-Skip) (by_equations term.Skip _ _ _ (meets_skip S asked) (written_skip S) (left_skip (reading_of S)) (λ env at bs ag h. refl))
  step (Term-F.Act a) = subst Holds (sym (term.rolls-Act a)) (by_equations (term.Act a) _ _ _ (meets_act S asked a) (written_act S a) (left_act (reading_of S) a) (λ env at bs ag h. ap straight (act_left p env a)))
  step (Term-F.Seq xs) = subst Holds (sym (term.rolls-Seq (terms xs))) (by_equations (term.Seq (terms xs)) _ _ _ (meets_seq S asked (terms xs)) (written_seq S (terms xs)) (left_seq (reading_of S) (terms xs)) (seq_terms xs))
  step (Term-F.Par xs) = subst Holds (sym (term.rolls-Par (terms xs))) (by_equations (term.Par (terms xs)) _ _ _ (meets_par S asked (terms xs)) (written_par S (terms xs)) (left_par (reading_of S) (terms xs)) (par_terms xs))
  step (Term-F.Loop n m) =
      subst Holds (sym (term.rolls-Loop n m.0)) (by_equations (term.Loop n m.0) _ _ _ (meets_loop S asked n m.0) (written_loop S n m.0) (left_loop (reading_of S) n m.0)
      (λ env at bs ag h. turns_left n m env at bs ag h.1))
  step (Term-F.Spread n rule m) =
      subst Holds (sym (term.rolls-Spread n rule m.0)) (by_equations (term.Spread n rule m.0) _ _ _ (meets_spread S asked n rule m.0) (written_spread S n rule m.0) (left_spread (reading_of S) n rule m.0)
      (λ env at bs ag h. spread_left n rule m env at bs ag h.2))
  step (Term-F.Case n xs) =
      subst Holds (sym (term.rolls-Case n (terms xs))) (by_equations (term.Case n (terms xs)) _ _ _ (meets_case S asked n (terms xs)) (written_case S n (terms xs)) (left_case (reading_of S) n (terms xs))
      (λ env at bs ag h. arms_terms xs (value_of S n env) env at bs ag h.1))
  step (Term-F.Within c bs m) =
      subst Holds (sym (term.rolls-Within c bs m.0)) (by_equations (term.Within c bs m.0) _ _ _ (meets_within S asked c bs m.0) (written_within S c bs m.0) (left_within (reading_of S) c bs m.0)
      (λ env at ds ag h.
      let inner = inside_of S env c in
      let there = agree_inside p are env at ag c h.0 in
      within_left p are env at ag c bs (written S m.0 inner) (left_of S m.0 inner) h.0 (m.1 inner there.0 (bs ++ ds) there.1 h.2)))

  pub terms_alike : (x : Term) → Holds x
  terms_alike = ind-Term Holds (λ x y is. subst (λ z. Holds (roll-Term z)) is (step y))
