-- Where an action stands the node in force is of the level in force.
use Rattle.std.proofs.Common.{◌≡◌, ℕ, zero, suc, ◌==◌, ◌++◌, true, false, Bool, List, [], ◌∷◌, map, ℤ, pos}
use Rattle.std.proofs.Common.{negsuc, Option, Some}
use Rattle.std.proofs.Common.{None, sym, subst, arith, if◌then◌else◌}
use Rattle.std.proofs.lemmas.Bool.Decides.{nat_tests}
use Rattle.sq_ir.specs.declared.num.Num.{Num}
use Rattle.sq_ir.specs.declared.term.Term.{Term, roll-Term}
use Rattle.sq_ir.specs.declared.term.Term.TheVariants as t
use Rattle.sq_ir.specs.declared.term.Term.TheOpen.{Term-F}
use Rattle.sq_ir.specs.declared.term.Term.TheFolds.{ind-Term, map-Term}
use Rattle.sq_ir.specs.Written.{Setting, Env, at_turn, at_child, node_of, count_of, value_of, inside_of}
use Rattle.sq_ir.specs.Plans.{AskedOfActions, AskedOfTerms, IsChild, each_part, this_arm, Meets}
use Rattle.sq_ir.proofs.Meeting.{meets_skip, meets_act, meets_seq, meets_par, meets_loop, meets_spread, meets_case}
use Rattle.sq_ir.proofs.Meeting.{meets_within}
use Rattle.sq_program_laws.specs.TermLaws.Fits.{Bounds, IsMachine}

module _ (s : Setting) (most : Bounds) (last : ℕ) (is_at : ℕ → ℕ → Type 0) (machine : IsMachine s most last is_at)
    (asked : AskedOfActions) where
  abbrev IsHere : Env → Type 0
  IsHere env = is_at env.level (node_of env)

  abbrev pub with_node : AskedOfActions
  with_node env bs a = asked env bs a × IsHere env

  abbrev Here : Term → Type 0
  Here x = (env : Env) (bs : List ℕ) → IsHere env → Meets s asked x env bs → Meets s with_node x env bs

  abbrev M : Type 0
  M = (x : Term) × Here x

  abbrev terms : List M → List Term
  terms xs = map (λ p. p.0) xs

  each_here : (xs : List M) (env : Env) (bs : List ℕ) → IsHere env → each_part (Meets s asked) (terms xs) env bs
      → each_part (Meets s with_node) (terms xs) env bs
  each_here [] env bs h m = tt
  each_here (x ∷ xs) env bs h m = (x.1 env bs h m.0, each_here xs env bs h m.1)

  arm_here : (xs : List M) (k : ℕ) (env : Env) (bs : List ℕ) → IsHere env
      → this_arm (Meets s asked) (terms xs) (pos k) env bs → this_arm (Meets s with_node) (terms xs) (pos k) env bs
  arm_here [] k env bs h m = tt
  arm_here (x ∷ xs) zero env bs h m = x.1 env bs h m
  arm_here (x ∷ xs) (suc k) env bs h m = arm_here xs k env bs h m

  at_here : (xs : List M) (z : ℤ) (env : Env) (bs : List ℕ) → IsHere env
      → this_arm (Meets s asked) (terms xs) z env bs → this_arm (Meets s with_node) (terms xs) z env bs
  at_here xs (pos k) env bs h m = arm_here xs k env bs h m
  at_here [] (negsuc k) env bs h m = tt
  at_here (x ∷ xs) (negsuc k) env bs h m = tt

  below : (env : Env) (c : ℕ) → is_at (suc env.level) (s.child (node_of env) c) → IsHere (at_child s env c)
  below env c h = go (suc env.level == suc env.level) (grind (arith, nat_tests))
    where
      go : (v : Bool) → v ≡ true
          → is_at (suc env.level) (if v then s.child (node_of env) c else env.nodes (suc env.level))
      go true e = h
      go false e = absurd (cc e)

  inner : (c : Option Num) (env : Env) → IsHere env → IsChild s env c → IsHere (inside_of s env c)
  inner None env h m = h
  inner (Some c) env h m = below env (count_of s c env) (machine.below env.level (node_of env) (count_of s c env) h m.1)

  by_equations : (x : Term) (asks more : AskedOfTerms) → Meets s asked x ≡ asks → Meets s with_node x ≡ more
      → ((env : Env) (bs : List ℕ) → IsHere env → asks env bs → more env bs) → Here x
  by_equations x asks more e f h env bs is m = subst (λ (u : AskedOfTerms). u env bs) (sym f)
      (h env bs is (subst (λ (u : AskedOfTerms). u env bs) e m))

  here_step : (y : Term-F M) → Here (roll-Term (map-Term M Term (λ p. p.0) y))
  here_step Term-F.Skip = subst Here (sym t.rolls-Skip)
      (by_equations t.Skip _ _ (meets_skip s asked) (meets_skip s with_node) (λ env bs h m. tt))
  here_step (Term-F.Act a) = subst Here (sym (t.rolls-Act a))
      (by_equations (t.Act a) _ _ (meets_act s asked a) (meets_act s with_node a) (λ env bs h m. (m, h)))
  here_step (Term-F.Seq xs) = subst Here (sym (t.rolls-Seq (terms xs)))
      (by_equations (t.Seq (terms xs)) _ _ (meets_seq s asked (terms xs)) (meets_seq s with_node (terms xs))
      (each_here xs))
  here_step (Term-F.Par xs) = subst Here (sym (t.rolls-Par (terms xs)))
      (by_equations (t.Par (terms xs)) _ _ (meets_par s asked (terms xs)) (meets_par s with_node (terms xs))
      (each_here xs))
  here_step (Term-F.Loop n x) = subst Here (sym (t.rolls-Loop n x.0))
      (by_equations (t.Loop n x.0) _ _ (meets_loop s asked n x.0) (meets_loop s with_node n x.0)
      (λ env bs h m. (m.0, λ i l. x.1 (at_turn env i) bs h (m.1 i l))))
  here_step (Term-F.Spread n r x) = subst Here (sym (t.rolls-Spread n r x.0))
      (by_equations (t.Spread n r x.0) _ _ (meets_spread s asked n r x.0) (meets_spread s with_node n r x.0)
      (λ env bs h m. (m.0, m.1, λ i l. x.1 (at_turn env i) bs h (m.2 i l))))
  here_step (Term-F.Case n xs) = subst Here (sym (t.rolls-Case n (terms xs)))
      (by_equations (t.Case n (terms xs)) _ _ (meets_case s asked n (terms xs)) (meets_case s with_node n (terms xs))
      (λ env bs h m. (m.0, at_here xs (value_of s n env) env bs h m.1)))
  here_step (Term-F.Within c new x) = subst Here (sym (t.rolls-Within c new x.0))
      (by_equations (t.Within c new x.0) _ _ (meets_within s asked c new x.0) (meets_within s with_node c new x.0)
      (λ env bs h m. (m.0, m.1, x.1 (inside_of s env c) (new ++ bs) (inner c env h m.0) m.2)))

  pub at_nodes : (x : Term) → Here x
  at_nodes = ind-Term Here (λ x y is. subst (λ z. Here (roll-Term z)) is (here_step y))
