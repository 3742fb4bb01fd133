-- The trees of parts where they stand, one equation for each variant of a term.
use Rattle.std.proofs.Common.{◌≡◌, ℕ, zero, suc, ◌+◌, ◌<◌, ◌≤◌, ◌%◌, Bool, true, false, Option, List, [], ◌∷◌, length, get_or, map, ℤ, refl, sym, ap, ◌∙◌, arith}
use Rattle.std.specs.Prelude.{if◌then◌else◌, ◌==◌}
use Rattle.std.proofs.lemmas.Bool.{eq-eqb}
use Rattle.std.proofs.lemmas.List.{length-map, get_or_past}
use Rattle.sq_text.specs.declared.spread.SpreadRule.{SpreadRule}
use Rattle.sq_text.specs.declared.spread.SpreadRule.TheVariants.{Cyclic}
use Rattle.sq_text.specs.Spreading.{child_of}
use Rattle.sq_ir.specs.Tree as tree
use Rattle.sq_ir.specs.Tree.{Tree, Skip, is_done, within}
use Rattle.sq_ir.specs.Events.{Event}
use Rattle.sq_ir.specs.Scopes.{Scope}
use Rattle.sq_ir.specs.Written.{PlanTree, scoped}
use Rattle.sq_ir.specs.declared.num.Num.{Num}
use Rattle.sq_ir.specs.declared.term.Action.{Action}
use Rattle.sq_ir.specs.declared.term.Term.{Term}
use Rattle.sq_ir.specs.declared.term.Term.TheVariants as t
use Rattle.sq_sched.specs.declared.env.Env.{Env}
use Rattle.sq_sched.specs.declared.frames.Spread.{Spread}
use Rattle.sq_sched.specs.Shapes.{Shape, Nothing, seq_of, par_of, written}
use Rattle.sq_sched.specs.Words.{env_of, at_turn, value, count, children_at, node_here, event}
use Rattle.sq_sched.specs.Nums.Words.{nat_part}
use Rattle.sq_sched.specs.Forms.{has_arm, inside, nothing, scope_form, made}
use Rattle.sq_sched.specs.Children.{is_at}
use Rattle.sq_sched.proofs.Strands.{if-true}
use Rattle.sq_sched.proofs.Sames.{written-normal}
use Rattle.sq_sched.proofs.Wholes.{seq_of-from, par_of-from, seq-one}
use Rattle.sq_sched.proofs.Made.{made-Skip, made-Act, made-Seq, made-Par, made-Loop, made-Spread, made-Case, made-Within}
use Rattle.sq_sched.specs.Acts.{acts}
use Rattle.sq_walks.specs.Walks.{tree_at, part_at, turn_at, child_at, turns_in, loop_of, spread_of}
use Rattle.sq_sched.proofs.Acting.{seq-none, par-none, no-action}

-- the tree of a scope is that of its body in a scope, or that of its body alone
pub scope-tree : (node : ℕ) (bs : List ℕ) (f : Shape Event Scope) → written (scope_form node bs f) ≡ scoped node bs (written f)
scope-tree node [] f = seq-one (written f) (written-normal f)
scope-tree node (b ∷ bs) f = refl

mod-one : (n : ℕ) → (n % 1 == 0) ≡ true
mod-one n = eq-eqb (n % 1) 0 (omega arith)

module _ (env : Env) where
  pub tree-skip : tree_at env t.Skip ≡ Skip
  tree-skip = ap (λ m. written (m.form (env_of env))) (made-Skip env.plan.now)

  pub tree-act : (a : Action) → tree_at env (t.Act a) ≡ tree.Act (event env.plan.now a (env_of env))
  tree-act a = ap (λ m. written (m.form (env_of env))) (made-Act env.plan.now a)

  pub tree-seq : (ts : List Term) → tree_at env (t.Seq ts) ≡ seq_of (length ts) (part_at env ts) 0
  tree-seq ts = ap (λ m. written (m.form (env_of env))) (made-Seq env.plan.now ts) ∙ ap (λ n. seq_of n (part_at env ts) 0) (length-map ts (made env.plan.now))

  pub tree-par : (ts : List Term) → tree_at env (t.Par ts) ≡ par_of (length ts) (part_at env ts) 0
  tree-par ts =
      let ms = map (made env.plan.now) ts in
      let f : ℕ → PlanTree = part_at env ts in
      ap (λ m. written (m.form (env_of env))) (made-Par env.plan.now ts)
      ∙ par_of-from (length ms) (λ c. seq_of 1 (λ i. f c) 0) f 0 0 (λ i lt. seq-one (f (0 + i)) (written-normal ((get_or ms (0 + i) nothing).form (env_of env))))
      ∙ ap (λ n. par_of n f 0) (length-map ts (made env.plan.now))

  -- iterations of a body that can't have an event are none
  fewer : (n : ℕ) (b : Term) (v : Bool) → acts b ≡ v
      → seq_of n (λ u. written ((made env.plan.now b).form (at_turn (env_of env) u))) 0 ≡ seq_of (if v then n else 0) (λ u. written ((made env.plan.now b).form (at_turn (env_of env) u))) 0
  fewer n b true e = refl
  fewer n b false e = seq-none n (λ u. written ((made env.plan.now b).form (at_turn (env_of env) u))) 0 (λ u. no-action env.plan.now b e (at_turn (env_of env) u))

  one-child : (n : ℕ) (b : Term) → child_at env (record { rule = Cyclic; turns = n; children = 1 }) b 0 ≡ seq_of n (λ u. written ((made env.plan.now b).form (at_turn (env_of env) u))) 0
  one-child n b =
      let form = (made env.plan.now b).form in
      seq_of-from n (turn_at env (record { rule = Cyclic; turns = n; children = 1 }) b 0) (λ u. written (form (at_turn (env_of env) u))) 0 0 (λ i lt.
      ap written (if-true ((0 + i) % 1 == 0) (form (at_turn (env_of env) (0 + i))) Nothing (mod-one (0 + i))))

  pub tree-loop : (n : Num) (b : Term) → tree_at env (t.Loop n b) ≡ child_at env (loop_of env n b) b 0
  tree-loop n b =
      ap (λ m. written (m.form (env_of env))) (made-Loop env.plan.now n b) ∙ fewer (count env.plan.now n (env_of env)) b (acts b) refl
      ∙ sym (one-child (turns_in env n b) b)

  children-of : (r : SpreadRule) (k m : ℕ) (b : Term) (v : Bool) → acts b ≡ v
      → par_of m (child_at env (record { rule = r; turns = k; children = m }) b) 0 ≡ par_of m (child_at env (record { rule = r; turns = if v then k else 0; children = m }) b) 0
  children-of r k m b true e = refl
  children-of r k m b false e =
      let f : ℕ → ℕ → PlanTree = turn_at env (record { rule = r; turns = k; children = m }) b in
      par-none m (λ c. seq_of k (f c) 0) 0 (λ c. seq-none k (f c) 0 (λ u. turn-none c u))
      ∙ sym (par-none m (λ c. Skip) 0 (λ c. refl))
    where
      turn-none : (c u : ℕ) → turn_at env (record { rule = r; turns = k; children = m }) b c u ≡ Skip
      turn-none c u = by (child_of r k m u == c)
        where
          by : (v : Bool) → written (if v then (made env.plan.now b).form (at_turn (env_of env) u) else Nothing) ≡ Skip
          by true = no-action env.plan.now b e (at_turn (env_of env) u)
          by false = refl

  pub tree-spread : (n : Num) (r : SpreadRule) (b : Term) → tree_at env (t.Spread n r b) ≡ par_of (spread_of env n r b).children (child_at env (spread_of env n r b) b) 0
  tree-spread n r b =
      ap (λ m. written (m.form (env_of env))) (made-Spread env.plan.now n r b)
      ∙ children-of r (count env.plan.now n (env_of env)) (children_at env.plan.now (env_of env)) b (acts b) refl

  pub part-past : (ts : List Term) (i : ℕ) → length ts ≤ i → part_at env ts i ≡ Skip
  part-past ts i le =
      let e = length-map ts (made env.plan.now) in
      ap (λ m. written (m.form (env_of env))) (get_or_past (map (made env.plan.now) ts) i nothing (omega (arith, e, le)))

  pub part-there : (ts : List Term) (i : ℕ) (x : Term) → i < length ts → x ≡ get_or ts i x → part_at env ts i ≡ tree_at env x
  part-there [] i x lt e = absurd (omega arith)
  part-there (y ∷ ys) zero x lt e = ap (tree_at env) (sym e)
  part-there (y ∷ ys) (suc i) x lt e = part-there ys i x (omega arith) e

  -- the number of an arm, or of all of them
  abbrev pub arm_in : ℤ → ℕ → ℕ
  arm_in z n = if has_arm z n then nat_part z else n

  pub tree-case : (k : Num) (ts : List Term) → tree_at env (t.Case k ts) ≡ part_at env ts (arm_in (value env.plan.now k (env_of env)) (length ts))
  tree-case k ts =
      let ms = map (made env.plan.now) ts in
      let z = value env.plan.now k (env_of env) in
      ap (λ m. written (m.form (env_of env))) (made-Case env.plan.now k ts)
      ∙ ap (λ n. seq_of (if has_arm z n then 1 else 0) (λ u. part_at env ts (nat_part z)) 0) (length-map ts (made env.plan.now))
      ∙ by (has_arm z (length ts))
    where
      by : (v : Bool) → seq_of (if v then 1 else 0) (λ u. part_at env ts (nat_part (value env.plan.now k (env_of env)))) 0 ≡ part_at env ts (if v then nat_part (value env.plan.now k (env_of env)) else length ts)
      by true = seq-one (part_at env ts (nat_part (value env.plan.now k (env_of env)))) (written-normal ((get_or (map (made env.plan.now) ts) (nat_part (value env.plan.now k (env_of env))) nothing).form (env_of env)))
      by false = sym (part-past ts (length ts) (omega arith))

  pub tree-within : (c : Option Num) (bs : List ℕ) (b : Term) → tree_at env (t.Within c bs b) ≡ scoped (node_here (inside env.plan.now c (env_of env))) bs (written ((made env.plan.now b).form (inside env.plan.now c (env_of env))))
  tree-within c bs b =
      let at = inside env.plan.now c (env_of env) in
      ap (λ m. written (m.form (env_of env))) (made-Within env.plan.now c bs b) ∙ scope-tree (node_here at) bs ((made env.plan.now b).form at)

  -- an iteration that stands at a child
  pub turn-here : (s : Spread) (b : Term) (c u : ℕ) → is_at s c u ≡ true → turn_at env s b c u ≡ written ((made env.plan.now b).form (at_turn (env_of env) u))
  turn-here s b c u e = ap written (if-true (is_at s c u) ((made env.plan.now b).form (at_turn (env_of env) u)) Nothing e)

  -- and one that doesn't
  pub turn-elsewhere : (s : Spread) (b : Term) (c u : ℕ) → is_at s c u ≡ false → is_done (turn_at env s b c u) ≡ true
  turn-elsewhere s b c u e = ap (λ v. is_done (written (if v then (made env.plan.now b).form (at_turn (env_of env) u) else Nothing))) e
