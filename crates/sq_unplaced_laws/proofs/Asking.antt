-- A term of whose actions one thing is asked is as asked where another is that follows from it.
use Rattle.std.proofs.Common.{◌≡◌, ℕ, zero, suc, ℤ, pos, negsuc, List, [], ◌∷◌, ◌++◌, map, sym, subst}
use Rattle.sq_ir.specs.Written.{Setting, Env, at_turn, value_of, inside_of}
use Rattle.sq_ir.specs.Plans.{AskedOfActions, AskedOfTerms, each_part, this_arm, Meets}
use Rattle.sq_ir.specs.declared.term.Action.{Action}
use Rattle.sq_ir.specs.declared.term.Term.{Term, roll-Term}
use Rattle.sq_ir.specs.declared.term.Term.TheVariants as t
use Rattle.sq_ir.specs.declared.term.Term.TheOpen.{Term-F}
use Rattle.sq_ir.specs.declared.term.Term.TheFolds.{ind-Term, map-Term}
use Rattle.sq_ir.proofs.Meeting.{meets_skip, meets_act, meets_seq, meets_par, meets_loop, meets_spread, meets_case, meets_within}

module _ (s : Setting) (asked less : AskedOfActions) (follows : (env : Env) (bs : List ℕ) (a : Action) → asked env bs a → less env bs a) where
  abbrev Less : Term → Type 0
  Less x = (env : Env) (bs : List ℕ) → Meets s asked x env bs → Meets s less x env bs

  abbrev L : Type 0
  L = (x : Term) × Less x

  abbrev terms : List L → List Term
  terms xs = map (λ x. x.0) xs

  all_less : (xs : List L) (env : Env) (bs : List ℕ) → each_part (Meets s asked) (terms xs) env bs
      → each_part (Meets s less) (terms xs) env bs
  all_less [] env bs m = tt
  all_less (x ∷ xs) env bs m = (x.1 env bs m.0, all_less xs env bs m.1)

  arm_less : (xs : List L) (k : ℕ) (env : Env) (bs : List ℕ) → this_arm (Meets s asked) (terms xs) (pos k) env bs
      → this_arm (Meets s less) (terms xs) (pos k) env bs
  arm_less [] k env bs m = tt
  arm_less (x ∷ xs) zero env bs m = x.1 env bs m
  arm_less (x ∷ xs) (suc k) env bs m = arm_less xs k env bs m

  at_less : (xs : List L) (z : ℤ) (env : Env) (bs : List ℕ) → this_arm (Meets s asked) (terms xs) z env bs
      → this_arm (Meets s less) (terms xs) z env bs
  at_less xs (pos k) env bs m = arm_less xs k env bs m
  at_less [] (negsuc k) env bs m = tt
  at_less (x ∷ xs) (negsuc k) env bs m = tt

  along : (x : Term) (f g : AskedOfTerms) → Meets s asked x ≡ f → Meets s less x ≡ g
      → ((env : Env) (bs : List ℕ) → f env bs → g env bs) → Less x
  along x f g e q h env bs m =
      subst (λ (z : AskedOfTerms). z env bs) (sym q) (h env bs (subst (λ (z : AskedOfTerms). z env bs) e m))

  less_step : (y : Term-F L) → Less (roll-Term (map-Term L Term (λ x. x.0) y))
  less_step Term-F.Skip =
      subst Less (sym t.rolls-Skip) (along _ _ _ (meets_skip s asked) (meets_skip s less) (λ env bs m. tt))
  less_step (Term-F.Act a) =
      subst Less (sym (t.rolls-Act a))
      (along _ _ _ (meets_act s asked a) (meets_act s less a) (λ env bs m. follows env bs a m))
  less_step (Term-F.Seq xs) =
      subst Less (sym (t.rolls-Seq (terms xs)))
      (along _ _ _ (meets_seq s asked (terms xs)) (meets_seq s less (terms xs)) (all_less xs))
  less_step (Term-F.Par xs) =
      subst Less (sym (t.rolls-Par (terms xs)))
      (along _ _ _ (meets_par s asked (terms xs)) (meets_par s less (terms xs)) (all_less xs))
  less_step (Term-F.Loop c x) =
      subst Less (sym (t.rolls-Loop c x.0))
      (along _ _ _ (meets_loop s asked c x.0) (meets_loop s less c x.0)
      (λ env bs m. (m.0, λ j l. x.1 (at_turn env j) bs (m.1 j l))))
  less_step (Term-F.Spread c rule x) =
      subst Less (sym (t.rolls-Spread c rule x.0))
      (along _ _ _ (meets_spread s asked c rule x.0) (meets_spread s less c rule x.0)
      (λ env bs m. (m.0, m.1, λ j l. x.1 (at_turn env j) bs (m.2 j l))))
  less_step (Term-F.Case k xs) =
      subst Less (sym (t.rolls-Case k (terms xs)))
      (along _ _ _ (meets_case s asked k (terms xs)) (meets_case s less k (terms xs))
      (λ env bs m. (m.0, at_less xs (value_of s k env) env bs m.1)))
  less_step (Term-F.Within c new x) =
      subst Less (sym (t.rolls-Within c new x.0))
      (along _ _ _ (meets_within s asked c new x.0) (meets_within s less c new x.0)
      (λ env bs m. (m.0, m.1, x.1 (inside_of s env c) (new ++ bs) m.2)))

  pub asks_less : (x : Term) → Less x
  asks_less = ind-Term Less (λ x y is. subst (λ z. Less (roll-Term z)) is (less_step y))
