-- What holds of the node in force, and of the children of each node of which it holds, holds of the nodes of a term's
-- scopes.
use Rattle.std.proofs.Common.{◌≡◌, Bool, true, false, ℕ, zero, suc, ◌+◌, ◌<◌, List, [], ◌∷◌, ◌++◌, map, ℤ, pos, negsuc}
use Rattle.std.proofs.Common.{Option, Some, None, refl, sym, subst, arith}
use Rattle.std.specs.Prelude.{if◌then◌else◌, ◌==◌}
use Rattle.std.proofs.lemmas.Bool.{eq-eqb}
use Rattle.sq_ir.specs.Written.{Setting, Env, count_of, value_of, at_turn, node_of, inside_of}
use Rattle.sq_ir.specs.Plans.{AskedOfActions, AskedOfTerms, each_part, this_arm, IsChild, Meets}
use Rattle.sq_ir.specs.declared.num.Num.{Num}
use Rattle.sq_ir.specs.declared.term.Term.{Term, roll-Term}
use Rattle.sq_ir.specs.declared.term.Term.TheVariants as t
use Rattle.sq_ir.specs.declared.term.Term.TheOpen.{Term-F}
use Rattle.sq_ir.specs.declared.term.Term.TheFolds.{ind-Term, map-Term}
use Rattle.sq_ir.proofs.Meeting.{meets_skip, meets_act, meets_seq, meets_par, meets_loop, meets_spread, meets_case}
use Rattle.sq_ir.proofs.Meeting.{meets_within}
use Rattle.sq_nests.specs.Nests as nests
use Rattle.sq_nests.specs.Nests.{ScopesAt, scopes_of, all_at, each_of}
use Rattle.sq_nests.specs.Levels.{AllNodes}
use Rattle.sq_nests.proofs.Equations.{scopes_skip, scopes_act, scopes_seq, scopes_par, scopes_loop, scopes_spread}
use Rattle.sq_nests.proofs.Equations.{scopes_case, scopes_within}

module _ (s : Setting) (asked : AskedOfActions) (P : ℕ → Type 0)
    (closed : (n c : ℕ) → c < s.children n → P n → P (s.child n c)) where
  abbrev InForce : Env → Type 0
  InForce env = P (node_of env)

  abbrev IsGood : Term → Type 0
  IsGood x = (env : Env) (bs : List ℕ) → Meets s asked x env bs → InForce env → AllNodes P (scopes_of s x env)

  abbrev G : Type 0
  G = (x : Term) × IsGood x

  abbrev terms : List G → List Term
  terms xs = map (λ p. p.0) xs

  seq_good : (xs : List G) (env : Env) (bs : List ℕ) → each_part (Meets s asked) (terms xs) env bs → InForce env
      → AllNodes P (all_at (map (scopes_of s) (terms xs)) env)
  seq_good [] env bs m f = tt
  seq_good (x ∷ xs) env bs m f = (x.1 env bs m.0 f, seq_good xs env bs m.1 f)

  arm_good : (xs : List G) (k : ℕ) (env : Env) (bs : List ℕ) → this_arm (Meets s asked) (terms xs) (pos k) env bs
      → InForce env → AllNodes P (nests.arm_of (map (scopes_of s) (terms xs)) k env)
  arm_good [] k env bs m f = tt
  arm_good (x ∷ xs) zero env bs m f = x.1 env bs m f
  arm_good (x ∷ xs) (suc k) env bs m f = arm_good xs k env bs m f

  at_good : (xs : List G) (z : ℤ) (env : Env) (bs : List ℕ) → this_arm (Meets s asked) (terms xs) z env bs → InForce env
      → AllNodes P (nests.arm_at (map (scopes_of s) (terms xs)) z env)
  at_good xs (pos k) env bs m f = arm_good xs k env bs m f
  at_good xs (negsuc k) env bs m f = tt

  turns_good : (x : G) (k i : ℕ) (env : Env) (bs : List ℕ)
      → ((j : ℕ) → j < i + k → Meets s asked x.0 (at_turn env j) bs) → InForce env
      → AllNodes P (each_of k (λ t. scopes_of s x.0 (at_turn env t)) i)
  unfolding each_of
  turns_good x zero i env bs m f = tt
  turns_good x (suc k) i env bs m f
      = (x.1 (at_turn env i) bs (m i (omega arith)) f, turns_good x k (i + 1) env bs (λ j z. m j (omega (arith, z))) f)

  inside_force : (env : Env) (c : Option Num) → IsChild s env c → InForce env → InForce (inside_of s env c)
  inside_force env None h f = f
  inside_force env (Some c) h f = by (suc env.level == suc env.level) (eq-eqb (suc env.level) (suc env.level) refl)
    where
      by : (v : Bool) → v ≡ true → P (if v then s.child (node_of env) (count_of s c env) else env.nodes (suc env.level))
      by true e = closed (node_of env) (count_of s c env) h.1 f
      by false e = absurd (let z = e in cc)

  along : (x : Term) (a : AskedOfTerms) (n : ScopesAt) → Meets s asked x ≡ a → scopes_of s x ≡ n
      → ((env : Env) (bs : List ℕ) → a env bs → InForce env → AllNodes P (n env)) → IsGood x
  along x a n p e h env bs k f = subst (λ (z : ScopesAt). AllNodes P (z env)) (sym e)
      (h env bs (subst (λ (z : AskedOfTerms). z env bs) p k) f)

  good_step : (y : Term-F G) → IsGood (roll-Term (map-Term G Term (λ p. p.0) y))
  good_step Term-F.Skip = subst IsGood (sym t.rolls-Skip)
      (along _ _ _ (meets_skip s asked) (scopes_skip s) (λ env bs m f. tt))
  good_step (Term-F.Act a) = subst IsGood (sym (t.rolls-Act a))
      (along _ _ _ (meets_act s asked a) (scopes_act s a) (λ env bs m f. tt))
  good_step (Term-F.Seq xs) = subst IsGood (sym (t.rolls-Seq (terms xs)))
      (along _ _ _ (meets_seq s asked (terms xs)) (scopes_seq s (terms xs)) (seq_good xs))
  good_step (Term-F.Par xs) = subst IsGood (sym (t.rolls-Par (terms xs)))
      (along _ _ _ (meets_par s asked (terms xs)) (scopes_par s (terms xs)) (seq_good xs))
  good_step (Term-F.Loop k x) = subst IsGood (sym (t.rolls-Loop k x.0))
      (along _ _ _ (meets_loop s asked k x.0) (scopes_loop s k x.0) (λ env bs m f.
      turns_good x (count_of s k env) 0 env bs (λ j z. m.1 j (omega (arith, z))) f))
  good_step (Term-F.Spread k u x)
      = subst IsGood (sym (t.rolls-Spread k u x.0))
      (along _ _ _ (meets_spread s asked k u x.0) (scopes_spread s k u x.0) (λ env bs m f.
      turns_good x (count_of s k env) 0 env bs (λ j z. m.2 j (omega (arith, z))) f))
  good_step (Term-F.Case k xs) = subst IsGood (sym (t.rolls-Case k (terms xs)))
      (along _ _ _ (meets_case s asked k (terms xs)) (scopes_case s k (terms xs))
      (λ env bs m f. at_good xs (value_of s k env) env bs m.1 f))
  good_step (Term-F.Within c new x)
      = subst IsGood (sym (t.rolls-Within c new x.0))
      (along _ _ _ (meets_within s asked c new x.0) (scopes_within s c new x.0) (λ env bs m f.
      (inside_force env c m.0 f, x.1 (inside_of s env c) (new ++ bs) m.2 (inside_force env c m.0 f))))

  pub all_nodes : (x : Term) → IsGood x
  all_nodes = ind-Term IsGood (λ x y is. subst (λ z. IsGood (roll-Term z)) is (good_step y))
