-- The tree of a term is its whole tree without the empty parts.
use Rattle.std.proofs.Common.{◌≡◌, ℕ, zero, suc, ◌+◌, ◌==◌, List, [], ◌∷◌, map, ℤ, pos, negsuc, Bool, true, false, refl, sym, ap, subst, ◌∙◌}
use Rattle.std.specs.Prelude.{if◌then◌else◌}
use Rattle.sq_text.specs.Spreading.{child_of}
use Rattle.sq_ir.specs.declared.term.Term.{Term, roll-Term}
use Rattle.sq_ir.specs.declared.term.Term.TheVariants as t
use Rattle.sq_ir.specs.declared.term.Term.TheOpen.{Term-F}
use Rattle.sq_ir.specs.declared.term.Term.TheFolds.{ind-Term, map-Term}
use Rattle.sq_ir.specs.Tree.{Skip, seq, par, within}
use Rattle.sq_ir.specs.Written.{Setting, Env, PlanTree, Part, at_root, at_turn, node_of, count_of, value_of, inside_of, seq_parts, par_parts, seq_of, par_of, arm_of, arm_at, scoped, turn_at, written}
use Rattle.sq_ir.specs.Plans.{setting_of}
use Rattle.sq_ir.proofs.Equations.{written_skip, written_act, written_seq, written_par, written_loop, written_spread, written_case, written_within}
use Rattle.sq_check_laws.specs.Whole.{in_turn, beside, turns_of, lanes_of, enclosed, whole, trimmed}
use Rattle.sq_check_laws.specs.PlanLaws.{TreesAreTrimmed}
use Rattle.sq_check_laws.proofs.Equations.{whole_skip, whole_act, whole_seq, whole_par, whole_loop, whole_spread, whole_case, whole_within}

two_seq : (a b c d : PlanTree) → a ≡ b → c ≡ d → seq a c ≡ seq b d
two_seq a b c d p q = ap (λ x. seq x c) p ∙ ap (λ x. seq b x) q

two_par : (a b c d : PlanTree) → a ≡ b → c ≡ d → par a c ≡ par b d
two_par a b c d p q = ap (λ x. par x c) p ∙ ap (λ x. par b x) q

turns_same : (n : ℕ) (f g : ℕ → PlanTree) (k : ℕ) → ((i : ℕ) → trimmed (f i) ≡ g i) → trimmed (turns_of n f k) ≡ seq_of n g k
unfolding turns_of seq_of
turns_same zero f g k h = refl
turns_same (suc n) f g k h = two_seq (trimmed (f k)) (g k) (trimmed (turns_of n f (k + 1))) (seq_of n g (k + 1)) (h k) (turns_same n f g (k + 1) h)

lanes_same : (n : ℕ) (f g : ℕ → PlanTree) (k : ℕ) → ((i : ℕ) → trimmed (f i) ≡ g i) → trimmed (lanes_of n f k) ≡ par_of n g k
unfolding lanes_of par_of
lanes_same zero f g k h = refl
lanes_same (suc n) f g k h = two_par (trimmed (f k)) (g k) (trimmed (lanes_of n f (k + 1))) (par_of n g (k + 1)) (h k) (lanes_same n f g (k + 1) h)

scope_same : (node : ℕ) (bs : List ℕ) (a b : PlanTree) → trimmed a ≡ b → trimmed (enclosed node bs a) ≡ scoped node bs b
scope_same node [] a b h = h
scope_same node (c ∷ bs) a b h = ap (within (record { node = node; buffers = c ∷ bs })) h

turn_same : (v : Bool) (a b : PlanTree) → trimmed a ≡ b → trimmed (if v then a else Skip) ≡ (if v then b else Skip)
turn_same true a b h = h
turn_same false a b h = refl

module _ (s : Setting) where
  abbrev Same : Term → Type 0
  Same x = (env : Env) → trimmed (whole s x env) ≡ written s x env

  abbrev H : Type 0
  H = (x : Term) × Same x

  abbrev terms : List H → List Term
  terms xs = map (λ p. p.0) xs

  seq_same : (xs : List H) (env : Env) → trimmed (in_turn (map (whole s) (terms xs)) env) ≡ seq_parts (map (written s) (terms xs)) env
  seq_same [] env = refl
  seq_same (x ∷ xs) env = two_seq _ _ _ _ (x.1 env) (seq_same xs env)

  par_same : (xs : List H) (env : Env) → trimmed (beside (map (whole s) (terms xs)) env) ≡ par_parts (map (written s) (terms xs)) env
  par_same [] env = refl
  par_same (x ∷ xs) env = two_par _ _ _ _ (x.1 env) (par_same xs env)

  arm_same : (xs : List H) (k : ℕ) (env : Env) → trimmed (arm_of (map (whole s) (terms xs)) k env) ≡ arm_of (map (written s) (terms xs)) k env
  arm_same [] k env = refl
  arm_same (x ∷ xs) zero env = x.1 env
  arm_same (x ∷ xs) (suc k) env = arm_same xs k env

  at_same : (xs : List H) (z : ℤ) (env : Env) → trimmed (arm_at (map (whole s) (terms xs)) z env) ≡ arm_at (map (written s) (terms xs)) z env
  at_same xs (pos k) env = arm_same xs k env
  at_same xs (negsuc k) env = refl

  -- along the equations of both trees
  along : (x : Term) (f g : Part) → whole s x ≡ f → written s x ≡ g → ((env : Env) → trimmed (f env) ≡ g env) → Same x
  along x f g p q h env = ap (λ (k : Part). trimmed (k env)) p ∙ h env ∙ sym (ap (λ (k : Part). k env) q)

  step : (y : Term-F H) → Same (roll-Term (map-Term H Term (λ p. p.0) y))
  step Term-F.Skip = subst Same (sym t.rolls-Skip) (along t.Skip _ _ (whole_skip s) (written_skip s) (λ env. refl))
  step (Term-F.Act a) = subst Same (sym (t.rolls-Act a)) (along (t.Act a) _ _ (whole_act s a) (written_act s a) (λ env. refl))
  step (Term-F.Seq xs) = subst Same (sym (t.rolls-Seq (terms xs))) (along (t.Seq (terms xs)) _ _ (whole_seq s (terms xs)) (written_seq s (terms xs)) (seq_same xs))
  step (Term-F.Par xs) = subst Same (sym (t.rolls-Par (terms xs))) (along (t.Par (terms xs)) _ _ (whole_par s (terms xs)) (written_par s (terms xs)) (par_same xs))
  step (Term-F.Loop n x) =
      subst Same (sym (t.rolls-Loop n x.0)) (along (t.Loop n x.0) _ _ (whole_loop s n x.0) (written_loop s n x.0) (λ env.
      turns_same (count_of s n env) (λ i. whole s x.0 (at_turn env i)) (λ i. written s x.0 (at_turn env i)) 0 (λ i. x.1 (at_turn env i))))
  step (Term-F.Spread n r x) =
      subst Same (sym (t.rolls-Spread n r x.0)) (along (t.Spread n r x.0) _ _ (whole_spread s n r x.0) (written_spread s n r x.0) (λ env.
      let count = count_of s n env in
      lanes_same (s.children (node_of env)) (λ c. turns_of count (turn_at s r count (whole s x.0) env c) 0) (λ c. seq_of count (turn_at s r count (written s x.0) env c) 0) 0 (λ c.
      turns_same count (turn_at s r count (whole s x.0) env c) (turn_at s r count (written s x.0) env c) 0 (λ i.
      turn_same (child_of r count (s.children (node_of env)) i == c) (whole s x.0 (at_turn env i)) (written s x.0 (at_turn env i)) (x.1 (at_turn env i))))))
  step (Term-F.Case n xs) =
      subst Same (sym (t.rolls-Case n (terms xs))) (along (t.Case n (terms xs)) _ _ (whole_case s n (terms xs)) (written_case s n (terms xs)) (λ env. at_same xs (value_of s n env) env))
  step (Term-F.Within c bs x) =
      subst Same (sym (t.rolls-Within c bs x.0)) (along (t.Within c bs x.0) _ _ (whole_within s c bs x.0) (written_within s c bs x.0) (λ env.
      let inner = inside_of s env c in
      scope_same (node_of inner) bs (whole s x.0 inner) (written s x.0 inner) (x.1 inner)))

  pub whole_is_written : (x : Term) (env : Env) → trimmed (whole s x env) ≡ written s x env
  whole_is_written = ind-Term Same (λ x y is. subst (λ z. Same (roll-Term z)) is (step y))

pub trees_are_trimmed : TreesAreTrimmed
trees_are_trimmed p =
    let s = setting_of p in
    scope_same 0 p.draft.entry (whole s p.draft.term at_root) (written s p.draft.term at_root) (whole_is_written s p.draft.term at_root)
