-- Scopes within one another in the tree of a term are so in the term written out.
use Rattle.std.proofs.Common.{◌≡◌, Bool, true, false, ℕ, zero, suc, ◌+◌, ◌<◌, ◌≤◌, List, [], ◌∷◌, ◌++◌, map, ℤ, pos}
use Rattle.std.proofs.Common.{negsuc, refl, sym, subst, arith}
use Rattle.std.specs.Prelude.{if◌then◌else◌, ◌==◌}
use Rattle.std.proofs.lemmas.Bool.{eqb-true, eqb-false}
use Rattle.sq_text.specs.Spreading.{child_of}
use Rattle.sq_ir.specs.Tree as tree
use Rattle.sq_ir.specs.Tree.{is_done, seq, par}
use Rattle.sq_ir.specs.Written.{Setting, Env, PlanTree, Part, written, seq_parts, par_parts, seq_of, par_of, arm_of}
use Rattle.sq_ir.specs.Written.{arm_at, scoped, turn_at, count_of, value_of, at_turn, node_of, inside_of}
use Rattle.sq_ir.specs.declared.term.Term.{Term, roll-Term}
use Rattle.sq_ir.specs.declared.term.Term.TheVariants as t
use Rattle.sq_ir.specs.declared.term.Term.TheOpen.{Term-F}
use Rattle.sq_ir.specs.declared.term.Term.TheFolds.{ind-Term, map-Term}
use Rattle.sq_ir.proofs.Equations.{written_skip, written_act, written_seq, written_par, written_loop, written_spread}
use Rattle.sq_ir.proofs.Equations.{written_case, written_within}
use Rattle.sq_nests.specs.Nests as nests
use Rattle.sq_nests.specs.Nests.{Nest, End, Both, Open, Scopes, ScopesAt, scopes_in, scopes_of, all_at, each_of}
use Rattle.sq_nests.specs.Stacks.{at_node, IsChain, ends, left, right, opens}
use Rattle.sq_nests.proofs.Equations.{scopes_skip, scopes_act, scopes_seq, scopes_par, scopes_loop, scopes_spread}
use Rattle.sq_nests.proofs.Equations.{scopes_case, scopes_within}

module _ (node : ℕ) where
  -- each chain of the tree is one of these scopes
  abbrev pub Covers : Scopes → PlanTree → Type 0
  Covers m x = (bs : List ℕ) → IsChain node (scopes_in x) bs → IsChain node m bs

  skips : (m : Scopes) → Covers m tree.Skip
  skips m bs ends = ends

  seq_in : (m : Scopes) (a b : PlanTree) → Covers m a → Covers m b → Covers m (seq a b)
  seq_in m a b f g = go (is_done a) (is_done b)
    where
      go : (u v : Bool) → Covers m (if u then b else (if v then a else tree.Seq a b))
      go true v bs c = g bs c
      go false true bs c = f bs c
      go false false bs ends = ends
      go false false bs (left c) = f bs c
      go false false bs (right c) = g bs c

  par_in : (m : Scopes) (a b : PlanTree) → Covers m a → Covers m b → Covers m (par a b)
  par_in m a b f g = go (is_done a) (is_done b)
    where
      go : (u v : Bool) → Covers m (if u then b else (if v then a else tree.Par a b))
      go true v bs c = g bs c
      go false true bs c = f bs c
      go false false bs ends = ends
      go false false bs (left c) = f bs c
      go false false bs (right c) = g bs c

  turns_in : (m : Scopes) (k : ℕ) (f : ℕ → PlanTree) (i : ℕ) → ((j : ℕ) → i ≤ j → j < i + k → Covers m (f j))
      → Covers m (seq_of k f i)
  unfolding seq_of
  turns_in m zero f i h = skips m
  turns_in m (suc k) f i h = seq_in m (f i) (seq_of k f (i + 1)) (h i (omega arith) (omega arith))
      (turns_in m k f (i + 1) (λ j g l. h j (omega (arith, g)) (omega (arith, l))))

  lanes_in : (m : Scopes) (k : ℕ) (f : ℕ → PlanTree) (i : ℕ) → ((j : ℕ) → i ≤ j → j < i + k → Covers m (f j))
      → Covers m (par_of k f i)
  unfolding par_of
  lanes_in m zero f i h = skips m
  lanes_in m (suc k) f i h = par_in m (f i) (par_of k f (i + 1)) (h i (omega arith) (omega arith))
      (lanes_in m k f (i + 1) (λ j g l. h j (omega (arith, g)) (omega (arith, l))))

  -- a chain of one of the parts is a chain of all
  one_of : (k : ℕ) (f : ℕ → Scopes) (i j : ℕ) (bs : List ℕ) → i ≤ j → j < i + k → IsChain node (f j) bs
      → IsChain node (each_of k f i) bs
  unfolding each_of
  one_of zero f i j bs g l c = absurd (omega (arith, g, l))
  one_of (suc k) f i j bs g l c = by (i == j) refl (λ low. one_of k f (i + 1) j bs low (omega (arith, l)) c)
    where
      by : (v : Bool) → (i == j) ≡ v → (i + 1 ≤ j → IsChain node (each_of k f (i + 1)) bs)
          → IsChain node (Both (f i) (each_of k f (i + 1))) bs
      by true e h = left (subst (λ z. IsChain node (f z) bs) (sym (eqb-true i j e)) c)
      by false e h = right (h (let z = eqb-false i j e in omega (arith, g, z)))

  no_name : (m : ℕ) → at_node node (record { node = m; buffers = [] }) ≡ []
  no_name m = by (m == node) []
    where
      by : (v : Bool) (xs : List ℕ) → (if v then xs else xs) ≡ xs
      by true xs = refl
      by false xs = refl

  pub scope_in : (m : ℕ) (buffers : List ℕ) (n : Scopes) (a : PlanTree) → Covers n a
      → Covers (Open (record { node = m; buffers = buffers }) n) (scoped m buffers a)
  scope_in m [] n a f = λ bs c. subst
      (λ (z : List ℕ). IsChain node (Open (record { node = m; buffers = [] }) n) (z ++ bs)) (no_name m) (opens (f bs c))
  scope_in m (b ∷ more) n a f = go (is_done a)
    where
      go : (u : Bool) → Covers (Open (record { node = m; buffers = b ∷ more }) n)
          (if u then tree.Skip else tree.Within (record { node = m; buffers = b ∷ more }) a)
      go true bs ends = ends
      go false bs ends = ends
      go false bs (opens {cs = cs} c) = opens (f cs c)

  module _ (s : Setting) where
    abbrev Held : Term → Type 0
    Held x = (env : Env) → Covers (scopes_of s x env) (written s x env)

    abbrev H : Type 0
    H = (x : Term) × Held x

    abbrev terms : List H → List Term
    terms xs = map (λ p. p.0) xs

    more : (m n : Scopes) (x : PlanTree) → Covers n x → Covers (Both m n) x
    more m n x f bs c = right (f bs c)

    first : (m n : Scopes) (x : PlanTree) → Covers m x → Covers (Both m n) x
    first m n x f bs c = left (f bs c)

    seq_held : (xs : List H) (env : Env)
        → Covers (all_at (map (scopes_of s) (terms xs)) env) (seq_parts (map (written s) (terms xs)) env)
    seq_held [] env = skips End
    seq_held (x ∷ xs) env = seq_in _ (written s x.0 env) _ (first (scopes_of s x.0 env) _ _ (x.1 env))
        (more (scopes_of s x.0 env) _ _ (seq_held xs env))

    par_held : (xs : List H) (env : Env)
        → Covers (all_at (map (scopes_of s) (terms xs)) env) (par_parts (map (written s) (terms xs)) env)
    par_held [] env = skips End
    par_held (x ∷ xs) env = par_in _ (written s x.0 env) _ (first (scopes_of s x.0 env) _ _ (x.1 env))
        (more (scopes_of s x.0 env) _ _ (par_held xs env))

    arm_held : (xs : List H) (k : ℕ) (env : Env)
        → Covers (nests.arm_of (map (scopes_of s) (terms xs)) k env) (arm_of (map (written s) (terms xs)) k env)
    arm_held [] k env = skips End
    arm_held (x ∷ xs) zero env = x.1 env
    arm_held (x ∷ xs) (suc k) env = arm_held xs k env

    at_held : (xs : List H) (z : ℤ) (env : Env)
        → Covers (nests.arm_at (map (scopes_of s) (terms xs)) z env) (arm_at (map (written s) (terms xs)) z env)
    at_held xs (pos k) env = arm_held xs k env
    at_held xs (negsuc k) env = skips End

    loop_held : (x : H) (k : ℕ) (env : Env)
        → Covers (each_of k (λ t. scopes_of s x.0 (at_turn env t)) 0) (seq_of k (λ t. written s x.0 (at_turn env t)) 0)
    loop_held x k env = turns_in (each_of k (λ t. scopes_of s x.0 (at_turn env t)) 0) k
        (λ t. written s x.0 (at_turn env t)) 0
        (λ j g l bs c. one_of k (λ t. scopes_of s x.0 (at_turn env t)) 0 j bs g l (x.1 (at_turn env j) bs c))

    turn_held : (m : Scopes) (a : PlanTree) (v : Bool) → Covers m a → Covers m (if v then a else tree.Skip)
    turn_held m a true h = h
    turn_held m a false h = skips m

    -- along the equations of the tree and of the scopes
    along : (x : Term) (f : Part) (n : ScopesAt) → written s x ≡ f → scopes_of s x ≡ n
        → ((env : Env) → Covers (n env) (f env)) → Held x
    along x f n e g h env = subst (λ (m : ScopesAt). Covers (m env) (written s x env)) (sym g)
        (subst (λ (k : Part). Covers (n env) (k env)) (sym e) (h env))

    held_step : (y : Term-F H) → Held (roll-Term (map-Term H Term (λ p. p.0) y))
    held_step Term-F.Skip = subst Held (sym t.rolls-Skip)
        (along _ _ _ (written_skip s) (scopes_skip s) (λ env. skips End))
    held_step (Term-F.Act a) = subst Held (sym (t.rolls-Act a))
        (along _ _ _ (written_act s a) (scopes_act s a) (λ env bs c. c))
    held_step (Term-F.Seq xs) = subst Held (sym (t.rolls-Seq (terms xs)))
        (along _ _ _ (written_seq s (terms xs)) (scopes_seq s (terms xs)) (seq_held xs))
    held_step (Term-F.Par xs) = subst Held (sym (t.rolls-Par (terms xs)))
        (along _ _ _ (written_par s (terms xs)) (scopes_par s (terms xs)) (par_held xs))
    held_step (Term-F.Loop k x) = subst Held (sym (t.rolls-Loop k x.0))
        (along _ _ _ (written_loop s k x.0) (scopes_loop s k x.0) (λ env. loop_held x (count_of s k env) env))
    held_step (Term-F.Spread k r x)
        = subst Held (sym (t.rolls-Spread k r x.0))
        (along _ _ _ (written_spread s k r x.0) (scopes_spread s k r x.0) (λ env.
        let m = each_of (count_of s k env) (λ t. scopes_of s x.0 (at_turn env t)) 0 in
        lanes_in m (s.children (node_of env))
        (λ c. seq_of (count_of s k env) (turn_at s r (count_of s k env) (written s x.0) env c) 0) 0 (λ c low below.
        turns_in m (count_of s k env) (turn_at s r (count_of s k env) (written s x.0) env c) 0 (λ j g l.
        turn_held m (written s x.0 (at_turn env j)) (child_of r (count_of s k env) (s.children (node_of env)) j == c)
        (λ bs d.
        one_of (count_of s k env) (λ t. scopes_of s x.0 (at_turn env t)) 0 j bs g l (x.1 (at_turn env j) bs d))))))
    held_step (Term-F.Case k xs) = subst Held (sym (t.rolls-Case k (terms xs)))
        (along _ _ _ (written_case s k (terms xs)) (scopes_case s k (terms xs))
        (λ env. at_held xs (value_of s k env) env))
    held_step (Term-F.Within c bs x)
        = subst Held (sym (t.rolls-Within c bs x.0))
        (along _ _ _ (written_within s c bs x.0) (scopes_within s c bs x.0) (λ env.
        scope_in (node_of (inside_of s env c)) bs (scopes_of s x.0 (inside_of s env c))
        (written s x.0 (inside_of s env c)) (x.1 (inside_of s env c))))

    pub chains_held : (x : Term) (env : Env) → Covers (scopes_of s x env) (written s x env)
    chains_held = ind-Term Held (λ x y is. subst (λ z. Held (roll-Term z)) is (held_step y))
