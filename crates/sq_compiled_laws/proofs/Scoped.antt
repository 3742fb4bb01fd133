-- A buffer that weighs something at a node stands in a scope there, and the term names it in that scope.
use Rattle.std.proofs.Common.{◌≡◌, ℕ, zero, suc, ◌+◌, ◌≤◌, max, ◌⊎◌, inl, inr, Bool, true, false, List, [], ◌∷◌, map}
use Rattle.std.proofs.Common.{ℤ, pos, negsuc, sym, subst, arith}
use Rattle.std.specs.Prelude.{◌==◌, if◌then◌else◌}
use Rattle.std.specs.List.{Contains}
use Rattle.sq_ir.specs.Scopes.{Scope}
use Rattle.sq_ir.specs.Written.{Setting, Env, at_turn, inside_of, value_of, count_of}
use Rattle.sq_ir.specs.declared.term.Term.{Term, roll-Term}
use Rattle.sq_ir.specs.declared.term.Term.TheVariants as t
use Rattle.sq_ir.specs.declared.term.Term.TheOpen.{Term-F}
use Rattle.sq_ir.specs.declared.term.Term.TheFolds.{ind-Term, map-Term}
use Rattle.sq_nests.specs.Nests.{End, Both, Open, Named, Scopes, ScopesAt, named_in, all_nests, scopes_of, all_at}
use Rattle.sq_nests.specs.Nests.{each_of}
use Rattle.sq_nests.specs.Nests.{arm_of, arm_at}
use Rattle.sq_nests.specs.Stacks.{total, at_node, sum_at}
use Rattle.sq_nests.proofs.Equations.{named_skip, named_act, named_seq, named_par, named_loop, named_spread, named_case}
use Rattle.sq_nests.proofs.Equations.{named_within, scopes_skip, scopes_act, scopes_seq, scopes_par, scopes_loop}
use Rattle.sq_nests.proofs.Equations.{scopes_spread, scopes_case, scopes_within}
use Rattle.sq_compiled_laws.specs.Buffers.{Somewhere}
use Rattle.sq_compiled_laws.proofs.BufferRoom.{one, weighs}

-- ---- what weighs anything

none_held : (b : ℕ) → 1 ≤ total (one b) [] → ⊥
none_held b h = omega (arith, h)

abbrev Holds : ℕ → Scope → Type 0
Holds b s = Contains s.buffers b

abbrev Names : ℕ → List ℕ → Type 0
Names b bs = Contains bs b

some_of : (m n : ℕ) → 1 ≤ max m n → (1 ≤ m) ⊎ (1 ≤ n)
some_of zero n h = inr (omega (arith, h))
some_of (suc m) n h = inl (omega arith)

some_sum : (m n : ℕ) → 1 ≤ m + n → (1 ≤ m) ⊎ (1 ≤ n)
some_sum zero n h = inr (omega (arith, h))
some_sum (suc m) n h = inl (omega arith)

pub stands : (b node : ℕ) (x : Scopes) → 1 ≤ sum_at (total (one b)) node x → Somewhere (Holds b) x
stands b node End h = omega (arith, h)
stands b node (Both x y) h =
    by (some_of (sum_at (total (one b)) node x) (sum_at (total (one b)) node y) h) (stands b node x) (stands b node y)
  where
    by : (1 ≤ sum_at (total (one b)) node x) ⊎ (1 ≤ sum_at (total (one b)) node y)
        → (1 ≤ sum_at (total (one b)) node x → Somewhere (Holds b) x)
        → (1 ≤ sum_at (total (one b)) node y → Somewhere (Holds b) y)
        → Somewhere (Holds b) x ⊎ Somewhere (Holds b) y
    by (inl l) f g = inl (f l)
    by (inr l) f g = inr (g l)
stands b node (Open s x) h =
    by (some_sum (total (one b) (at_node node s)) (sum_at (total (one b)) node x) h) (stands b node x)
  where
    mine : (u : Bool) → 1 ≤ total (one b) (if u then s.buffers else []) → Holds b s
    mine true l = weighs b s.buffers l
    mine false l = absurd (none_held b l)

    by : (1 ≤ total (one b) (at_node node s)) ⊎ (1 ≤ sum_at (total (one b)) node x)
        → (1 ≤ sum_at (total (one b)) node x → Somewhere (Holds b) x) → Holds b s ⊎ Somewhere (Holds b) x
    by (inl l) f = inl (mine (s.node == node) l)
    by (inr l) f = inr (f l)

-- ---- scopes that are written out are those of the term

module _ (s : Setting) (b : ℕ) where
  abbrev IsNamed : Term → Type 0
  IsNamed x = (env : Env) → Somewhere (Holds b) (scopes_of s x env) → Somewhere (Names b) (named_in x)

  abbrev Known : Type 0
  Known = (x : Term) × IsNamed x

  abbrev terms : List Known → List Term
  terms xs = map (λ p. p.0) xs

  all_named : (xs : List Known) (env : Env) → Somewhere (Holds b) (all_at (map (scopes_of s) (terms xs)) env)
      → Somewhere (Names b) (all_nests (map named_in (terms xs)))
  all_named [] env h = h
  all_named (x ∷ xs) env (inl h) = inl (x.1 env h)
  all_named (x ∷ xs) env (inr h) = inr (all_named xs env h)

  arm_named : (xs : List Known) (k : ℕ) (env : Env) → Somewhere (Holds b) (arm_of (map (scopes_of s) (terms xs)) k env)
      → Somewhere (Names b) (all_nests (map named_in (terms xs)))
  arm_named [] k env h = absurd h
  arm_named (x ∷ xs) zero env h = inl (x.1 env h)
  arm_named (x ∷ xs) (suc k) env h = inr (arm_named xs k env h)

  at_named : (xs : List Known) (z : ℤ) (env : Env) → Somewhere (Holds b) (arm_at (map (scopes_of s) (terms xs)) z env)
      → Somewhere (Names b) (all_nests (map named_in (terms xs)))
  at_named xs (pos k) env h = arm_named xs k env h
  at_named xs (negsuc k) env h = absurd h

  turns_named : (x : Known) (k i : ℕ) (env : Env)
      → Somewhere (Holds b) (each_of k (λ t. scopes_of s x.0 (at_turn env t)) i) → Somewhere (Names b) (named_in x.0)
  unfolding each_of
  turns_named x zero i env h = absurd h
  turns_named x (suc k) i env (inl h) = x.1 (at_turn env i) h
  turns_named x (suc k) i env (inr h) = turns_named x k (i + 1) env h

  from : (x : Term) {n : Named} {f : ScopesAt} → named_in x ≡ n → scopes_of s x ≡ f
      → ((env : Env) → Somewhere (Holds b) (f env) → Somewhere (Names b) n) → IsNamed x
  from x named scoped so = λ env h.
      subst (Somewhere (Names b)) (sym named) (so env (subst (λ (f : ScopesAt). Somewhere (Holds b) (f env)) scoped h))

  named_step : (y : Term-F Known) → IsNamed (roll-Term (map-Term Known Term (λ p. p.0) y))
  named_step Term-F.Skip = subst IsNamed (sym t.rolls-Skip) (from t.Skip named_skip (scopes_skip s) (λ env h. absurd h))
  named_step (Term-F.Act a)
      = subst IsNamed (sym (t.rolls-Act a)) (from (t.Act a) (named_act a) (scopes_act s a) (λ env h. absurd h))
  named_step (Term-F.Seq xs) = subst IsNamed (sym (t.rolls-Seq (terms xs)))
      (from (t.Seq (terms xs)) (named_seq (terms xs)) (scopes_seq s (terms xs)) (λ env h. all_named xs env h))
  named_step (Term-F.Par xs) = subst IsNamed (sym (t.rolls-Par (terms xs)))
      (from (t.Par (terms xs)) (named_par (terms xs)) (scopes_par s (terms xs)) (λ env h. all_named xs env h))
  named_step (Term-F.Loop count x) = subst IsNamed (sym (t.rolls-Loop count x.0))
      (from (t.Loop count x.0) (named_loop count x.0) (scopes_loop s count x.0)
      (λ env h. turns_named x (count_of s count env) 0 env h))
  named_step (Term-F.Spread count rule x) = subst IsNamed (sym (t.rolls-Spread count rule x.0))
      (from (t.Spread count rule x.0) (named_spread count rule x.0) (scopes_spread s count rule x.0)
      (λ env h. turns_named x (count_of s count env) 0 env h))
  named_step (Term-F.Case pick xs) = subst IsNamed (sym (t.rolls-Case pick (terms xs)))
      (from (t.Case pick (terms xs)) (named_case pick (terms xs)) (scopes_case s pick (terms xs))
      (λ env h. at_named xs (value_of s pick env) env h))
  named_step (Term-F.Within child bs x) = subst IsNamed (sym (t.rolls-Within child bs x.0))
      (from (t.Within child bs x.0) (named_within child bs x.0) (scopes_within s child bs x.0) (λ env h. inside env h))
    where
      inside : (env : Env) → Contains bs b ⊎ Somewhere (Holds b) (scopes_of s x.0 (inside_of s env child))
          → Contains bs b ⊎ Somewhere (Names b) (named_in x.0)
      inside env (inl h) = inl h
      inside env (inr h) = inr (x.1 (inside_of s env child) h)

  pub is_named : (x : Term) → IsNamed x
  is_named = ind-Term IsNamed (λ x y is. subst (λ z. IsNamed (roll-Term z)) is (named_step y))
