-- Of a well formed plan all is asked that sums over its events ask.
use Rattle.std.proofs.Common.{◌≡◌, ℕ, zero, suc, List, [], ◌∷◌, ◌++◌, map, ℤ, pos, negsuc, sym, subst}
use Rattle.sq_ir.specs.Written.{Setting, Env, at_root, at_turn, value_of, inside_of}
use Rattle.sq_ir.specs.Events.{Leaves}
use Rattle.sq_ir.specs.Plans.{AskedOfActions, AskedOfTerms, each_part, this_arm, Meets, IsAllowed, setting_of}
use Rattle.sq_ir.specs.Plans.{IsWellFormed}
use Rattle.sq_ir.specs.declared.term.Action.{Action}
use Rattle.sq_ir.specs.declared.term.Action.TheVariants as action
use Rattle.sq_ir.specs.declared.term.Term.{Term, roll-Term}
use Rattle.sq_ir.specs.declared.term.Term.TheVariants as t
use Rattle.sq_ir.specs.declared.term.Term.TheOpen.{Term-F}
use Rattle.sq_ir.specs.declared.term.Term.TheFolds.{ind-Term, map-Term}
use Rattle.sq_ir.specs.declared.plan.Plan.{Plan}
use Rattle.sq_ir.proofs.Meeting.{meets_skip, meets_act, meets_seq, meets_par, meets_loop, meets_spread, meets_case}
use Rattle.sq_ir.proofs.Meeting.{meets_within}
use Rattle.sq_sums.specs.Tolls.{InScope, IsTolled}

-- what is asked of actions may be less
module _ (s : Setting) (a b : AskedOfActions) (less : (env : Env) (bs : List ℕ) (x : Action) → a env bs x
    → b env bs x) where
  abbrev Less : Term → Type 0
  Less x = (env : Env) (bs : List ℕ) → Meets s a x env bs → Meets s b x env bs

  abbrev L : Type 0
  L = (x : Term) × Less x

  abbrev terms : List L → List Term
  terms xs = map (λ x. x.0) xs

  all_less : (xs : List L) (env : Env) (bs : List ℕ) → each_part (Meets s a) (terms xs) env bs
      → each_part (Meets s b) (terms xs) env bs
  all_less [] env bs m = tt
  all_less (x ∷ xs) env bs m = (x.1 env bs m.0, all_less xs env bs m.1)

  arm_less : (xs : List L) (k : ℕ) (env : Env) (bs : List ℕ) → this_arm (Meets s a) (terms xs) (pos k) env bs
      → this_arm (Meets s b) (terms xs) (pos k) env bs
  arm_less [] k env bs m = tt
  arm_less (x ∷ xs) zero env bs m = x.1 env bs m
  arm_less (x ∷ xs) (suc k) env bs m = arm_less xs k env bs m

  at_less : (xs : List L) (z : ℤ) (env : Env) (bs : List ℕ) → this_arm (Meets s a) (terms xs) z env bs
      → this_arm (Meets s b) (terms xs) z env bs
  at_less xs (pos k) env bs m = arm_less xs k env bs m
  at_less [] (negsuc k) env bs m = tt
  at_less (x ∷ xs) (negsuc k) env bs m = tt

  along : (x : Term) (p q : AskedOfTerms) → Meets s a x ≡ p → Meets s b x ≡ q
      → ((env : Env) (bs : List ℕ) → p env bs → q env bs) → Less x
  along x p q e g h env bs m =
      subst (λ (z : AskedOfTerms). z env bs) (sym g) (h env bs (subst (λ (z : AskedOfTerms). z env bs) e m))

  less_step : (y : Term-F L) → Less (roll-Term (map-Term L Term (λ x. x.0) y))
  less_step Term-F.Skip = subst Less (sym t.rolls-Skip) (along _ _ _ (meets_skip s a) (meets_skip s b) (λ env bs m. tt))
  less_step (Term-F.Act x) =
      subst Less (sym (t.rolls-Act x)) (along _ _ _ (meets_act s a x) (meets_act s b x) (λ env bs m. less env bs x m))
  less_step (Term-F.Seq xs) =
      subst Less (sym (t.rolls-Seq (terms xs))) (along _ _ _ (meets_seq s a (terms xs)) (meets_seq s b (terms xs))
      (all_less xs))
  less_step (Term-F.Par xs) =
      subst Less (sym (t.rolls-Par (terms xs))) (along _ _ _ (meets_par s a (terms xs)) (meets_par s b (terms xs))
      (all_less xs))
  less_step (Term-F.Loop c x) =
      subst Less (sym (t.rolls-Loop c x.0)) (along _ _ _ (meets_loop s a c x.0) (meets_loop s b c x.0)
      (λ env bs m. (m.0, λ j l. x.1 (at_turn env j) bs (m.1 j l))))
  less_step (Term-F.Spread c u x) =
      subst Less (sym (t.rolls-Spread c u x.0)) (along _ _ _ (meets_spread s a c u x.0) (meets_spread s b c u x.0)
      (λ env bs m. (m.0, m.1, λ j l. x.1 (at_turn env j) bs (m.2 j l))))
  less_step (Term-F.Case k xs) =
      subst Less (sym (t.rolls-Case k (terms xs)))
      (along _ _ _ (meets_case s a k (terms xs)) (meets_case s b k (terms xs))
      (λ env bs m. (m.0, at_less xs (value_of s k env) env bs m.1)))
  less_step (Term-F.Within c new x) =
      subst Less (sym (t.rolls-Within c new x.0)) (along _ _ _ (meets_within s a c new x.0)
      (meets_within s b c new x.0) (λ env bs m. (m.0, m.1, x.1 (inside_of s env c) (new ++ bs) m.2)))

  pub asks_less : (x : Term) → Less x
  asks_less = ind-Term Less (λ x y is. subst (λ z. Less (roll-Term z)) is (less_step y))

in_scope : {C : Type 0} (leaves : Leaves C) (s : Setting) (env : Env) (bs : List ℕ) (x : Action)
    → IsAllowed leaves s env bs x → InScope env bs x
in_scope leaves s env bs (action.CopyRow from to bytes) h = (h.inside.0.scope, h.inside.1.scope)
in_scope leaves s env bs (action.FillRow to elem n v) h = h.inside.scope
in_scope leaves s env bs (action.AccRow op elem from to n) h = (h.inside.0.scope, h.inside.1.scope)
in_scope leaves s env bs (action.Leaf code views path) h = tt

pub tolled : (C : Type 0) (leaves : Leaves C) (p : Plan) → IsWellFormed leaves p → IsTolled p
tolled C leaves p h = record {
  machine = h.nodes;
  entry = h.entry;
  term = asks_less (setting_of p) (IsAllowed leaves (setting_of p)) InScope
      (in_scope leaves (setting_of p)) p.draft.term at_root p.draft.entry h.term;
}
