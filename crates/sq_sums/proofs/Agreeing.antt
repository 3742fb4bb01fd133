-- Where numbers have their values, the most that is open at a node is the greatest sum of the term written out.
use Rattle.std.proofs.Common.{◌≡◌, ℕ, zero, suc, ◌+◌, ◌<◌, ◌≤◌, max, Bool, true, false, List, [], ◌∷◌, ◌++◌, map}
use Rattle.std.proofs.Common.{Option, Some, None, ℤ, pos, negsuc, refl, sym, ap, ◌∙◌, subst, arith}
use Rattle.std.specs.Prelude.{◌==◌, if◌then◌else◌, nat_lt}
use Rattle.std.proofs.lemmas.Bool.{lt-ltb, eq-eqb, eqb-true}
use Rattle.sq_ir.specs.Machines.{AreNodes}
use Rattle.sq_ir.specs.Written as whole
use Rattle.sq_ir.specs.Written.{Setting, node_of, count_of, value_of, inside_of}
use Rattle.sq_ir.specs.Plans.{node_at, placed, IsCount, IsChild, AskedOfActions, AskedOfTerms, each_part, this_arm}
use Rattle.sq_ir.specs.Plans.{Meets}
use Rattle.sq_ir.specs.declared.num.Num.{Num}
use Rattle.sq_ir.specs.declared.term.Term.{Term, roll-Term}
use Rattle.sq_ir.specs.declared.term.Term.TheVariants as t
use Rattle.sq_ir.specs.declared.term.Term.TheOpen.{Term-F}
use Rattle.sq_ir.specs.declared.term.Term.TheFolds.{ind-Term, map-Term}
use Rattle.sq_ir.specs.declared.plan.Buffer.{Buffer}
use Rattle.sq_ir.specs.declared.plan.PlanNode.{PlanNode}
use Rattle.sq_ir.proofs.Meeting.{meets_skip, meets_act, meets_seq, meets_par, meets_loop, meets_spread, meets_case}
use Rattle.sq_ir.proofs.Meeting.{meets_within}
use Rattle.sq_term_nums.specs.Words.{count}
use Rattle.sq_term_nums.specs.Laws as nums
use Rattle.sq_term_nums.proofs.Values.{value-is, count-is}
use Rattle.sq_nests.specs.Nests as nests
use Rattle.sq_nests.specs.Nests.{End, Both, Open, Scopes, ScopesAt, scopes_of, all_at, each_of}
use Rattle.sq_nests.specs.Levels.{AllNodes}
use Rattle.sq_nests.specs.Stacks.{capped, sum_at}
use Rattle.sq_nests.proofs.Equations.{scopes_skip, scopes_act, scopes_seq, scopes_par, scopes_loop, scopes_spread}
use Rattle.sq_nests.proofs.Equations.{scopes_case, scopes_within}
use Rattle.sq_nests.proofs.Machines.{layered}
use Rattle.sq_nests.proofs.Inside.{all_nodes}
use Rattle.sq_sums.specs.Parts.{all_parts, each_turn, arm_of, arm_at}
use Rattle.sq_sums.specs.Tops.{Stand, TopsAt, Tops, at_turn, with_more, at_other, open_scope, env_at, child_at}
use Rattle.sq_sums.specs.Tops.{at_child, scope_tops, tops, highest}
use Rattle.sq_sums.proofs.TopForms.{top_skip, top_act, top_seq, top_par, top_loop, top_spread, top_case, top_within}

if-true : {X : Type 0} (v : Bool) (a b : X) → v ≡ true → (if v then a else b) ≡ a
if-true true a b e = refl
if-true false a b e = absurd (let z = e in cc)

-- ---- sums that stop

end_of : (b h : ℕ) → h ≡ capped b → capped (b + 0) ≡ max h 0
unfolding capped
end_of b h e = omega (arith, e)

both_of : (b h x y p q : ℕ) → capped (b + x) ≡ max h p → capped (b + y) ≡ max h q → capped (b + max x y)
    ≡ max h (max p q)
unfolding capped
both_of b h x y p q e g = omega (arith, e, g)

more_of : (o w h x p : ℕ) → h ≡ capped o → capped ((o + w) + x) ≡ max (capped (h + capped w)) p → capped (o + (w + x))
    ≡ max h (max (capped (h + capped w)) p)
unfolding capped
more_of o w h x p e g = omega (arith, e, g)

nothing : 0 ≡ capped 0
unfolding capped
nothing = refl

held_more : (o w h : ℕ) → h ≡ capped o → capped (h + capped w) ≡ capped (o + w)
unfolding capped
held_more o w h e = omega (arith, e)

none_of : (x p : ℕ) → capped (0 + x) ≡ max 0 p → capped (0 + (0 + x)) ≡ max 0 (max 0 p)
unfolding capped
none_of x p e = omega (arith, e)

first_of : (w x p : ℕ) → capped (w + x) ≡ max (capped w) p → capped (0 + (w + x)) ≡ max 0 (max (capped w) p)
unfolding capped
first_of w x p e = omega (arith, e)

above_of : (o h x p : ℕ) → h ≡ capped o → x ≡ 0 → capped (0 + x) ≡ max 0 p → capped (o + (0 + x)) ≡ max h (max 0 p)
unfolding capped
above_of o h x p e z g = omega (arith, e, z, g)

module _ (buffers : List Buffer) (nodes : List PlanNode) (offset : ℕ → ℕ) (are : AreNodes nodes) (ask : AskedOfActions)
    (weigh : List ℕ → ℕ) (none : weigh [] ≡ 0) (m : ℕ) where
  abbrev s : Setting
  s = placed buffers nodes offset

  abbrev level : ℕ → ℕ
  level n = (node_at nodes n).level

  -- where a part stands, by the plan and by words
  pub record Agree (env : whole.Env) (at : Stand) (o : ℕ) : Type 0 where
    pub turns : at.turns ≡ env.turns
    pub here : at.node ≡ node_of env
    pub held : at.held ≡ capped o

  agree_turn : (env : whole.Env) (at : Stand) (o k : ℕ) → Agree env at o → Agree (whole.at_turn env k) (at_turn at k) o
  agree_turn env at o k ag = record { turns = ap (λ ts. k ∷ ts) ag.turns; here = ag.here; held = ag.held }

  numbers : (env : whole.Env) (at : Stand) (o : ℕ) → Agree env at o → nums.Agree s env (env_at nodes at)
  numbers env at o ag = record { turns = ag.turns; children = ap (λ n. (node_at nodes n).children) ag.here }

  -- what is open at the node in question
  abbrev own : Stand → ℕ → ℕ
  own at o = if at.node == m then o else 0

  abbrev held : Stand → ℕ
  held at = if at.node == m then at.held else 0

  abbrev Is : Stand → ℕ → Scopes → Tops → Type 0
  Is at o x y = capped (own at o + sum_at weigh m x) ≡ max (held at) (highest m y)

  held_is : (at : Stand) (o : ℕ) → at.held ≡ capped o → held at ≡ capped (own at o)
  held_is at o e = by (at.node == m)
    where
      by : (v : Bool) → (if v then at.held else 0) ≡ capped (if v then o else 0)
      by true = e
      by false = nothing

  abbrev Same : Term → Type 0
  Same x = (env : whole.Env) (at : Stand) (o : ℕ) (bs : List ℕ) → Meets s ask x env bs → Agree env at o
      → Is at o (scopes_of s x env) (tops nodes weigh x at)

  abbrev A : Type 0
  A = (x : Term) × Same x

  abbrev terms : List A → List Term
  terms xs = map (λ p. p.0) xs

  end_same : (at : Stand) (o : ℕ) → at.held ≡ capped o → Is at o End End
  end_same at o e = end_of (own at o) (held at) (held_is at o e)

  both_same : (at : Stand) (o : ℕ) (a b : Scopes) (x y : Tops) → Is at o a x → Is at o b y
      → Is at o (Both a b) (Both x y)
  both_same at o a b x y e g = both_of (own at o) (held at) (sum_at weigh m a) (sum_at weigh m b) (highest m x)
      (highest m y) e g

  all_same : (xs : List A) (env : whole.Env) (at : Stand) (o : ℕ) (bs : List ℕ)
      → each_part (Meets s ask) (terms xs) env bs → Agree env at o
      → Is at o (all_at (map (scopes_of s) (terms xs)) env) (all_parts (map (tops nodes weigh) (terms xs)) at)
  all_same [] env at o bs k ag = end_same at o ag.held
  all_same (x ∷ xs) env at o bs k ag
      = both_same at o (scopes_of s x.0 env) (all_at (map (scopes_of s) (terms xs)) env) (tops nodes weigh x.0 at)
      (all_parts (map (tops nodes weigh) (terms xs)) at)
      (x.1 env at o bs k.0 ag) (all_same xs env at o bs k.1 ag)

  arm_same : (xs : List A) (k : ℕ) (env : whole.Env) (at : Stand) (o : ℕ) (bs : List ℕ)
      → this_arm (Meets s ask) (terms xs) (pos k) env bs → Agree env at o
      → Is at o (nests.arm_of (map (scopes_of s) (terms xs)) k env) (arm_of (map (tops nodes weigh) (terms xs)) k at)
  arm_same [] k env at o bs h ag = end_same at o ag.held
  arm_same (x ∷ xs) zero env at o bs h ag = x.1 env at o bs h ag
  arm_same (x ∷ xs) (suc k) env at o bs h ag = arm_same xs k env at o bs h ag

  at_same : (xs : List A) (z : ℤ) (env : whole.Env) (at : Stand) (o : ℕ) (bs : List ℕ)
      → this_arm (Meets s ask) (terms xs) z env bs → Agree env at o
      → Is at o (nests.arm_at (map (scopes_of s) (terms xs)) z env) (arm_at (map (tops nodes weigh) (terms xs)) z at)
  at_same xs (pos k) env at o bs h ag = arm_same xs k env at o bs h ag
  at_same xs (negsuc k) env at o bs h ag = end_same at o ag.held

  turns_same : (x : A) (k i : ℕ) (env : whole.Env) (at : Stand) (o : ℕ) (bs : List ℕ)
      → ((j : ℕ) → j < i + k → Meets s ask x.0 (whole.at_turn env j) bs) → Agree env at o
      → Is at o (each_of k (λ j. scopes_of s x.0 (whole.at_turn env j)) i)
      (each_turn k (λ j. tops nodes weigh x.0 (at_turn at j)) i)
  unfolding each_of each_turn
  turns_same x zero i env at o bs h ag = end_same at o ag.held
  turns_same x (suc k) i env at o bs h ag = both_same at o
      (scopes_of s x.0 (whole.at_turn env i)) (each_of k (λ j. scopes_of s x.0 (whole.at_turn env j)) (i + 1))
      (tops nodes weigh x.0 (at_turn at i)) (each_turn k (λ j. tops nodes weigh x.0 (at_turn at j)) (i + 1))
      (x.1 (whole.at_turn env i) (at_turn at i) o bs (h i (omega arith)) (agree_turn env at o i ag))
      (turns_same x k (i + 1) env at o bs (λ j l. h j (omega (arith, l))) ag)

  loop_same : (x : A) (k : Num) (env : whole.Env) (at : Stand) (o : ℕ) (bs : List ℕ) → IsCount s env k
      → ((j : ℕ) → j < count_of s k env → Meets s ask x.0 (whole.at_turn env j) bs) → Agree env at o
      → Is at o (each_of (count_of s k env) (λ j. scopes_of s x.0 (whole.at_turn env j)) 0)
      (each_turn (count k (env_at nodes at)) (λ j. tops nodes weigh x.0 (at_turn at j)) 0)
  loop_same x k env at o bs h ms ag =
      subst (λ c. Is at o (each_of (count_of s k env) (λ j. scopes_of s x.0 (whole.at_turn env j)) 0)
      (each_turn c (λ j. tops nodes weigh x.0 (at_turn at j)) 0))
      (sym (count-is s env (env_at nodes at) (numbers env at o ag) k h))
      (turns_same x (count_of s k env) 0 env at o bs (λ j l. ms j (omega (arith, l))) ag)

  -- ---- scopes

  -- a scope at the node in force
  here_same : (env : whole.Env) (at : Stand) (o : ℕ) (bs : List ℕ) (a : Scopes) (f : TopsAt) → Agree env at o
      → (Agree env (with_more (capped (weigh bs)) at) (o + weigh bs)
      → Is (with_more (capped (weigh bs)) at) (o + weigh bs) a (f (with_more (capped (weigh bs)) at)))
      → Is at o (Open (record { node = node_of env; buffers = bs }) a) (open_scope f (with_more (capped (weigh bs)) at))
  here_same env at o bs a f ag ih
      = subst (λ n. Is at o (Open (record { node = n; buffers = bs }) a) (open_scope f q)) ag.here
      (by (at.node == m) (ih inner))
    where
      q : Stand
      q = with_more (capped (weigh bs)) at

      inner : Agree env q (o + weigh bs)
      inner = record { turns = ag.turns; here = ag.here; held = held_more o (weigh bs) at.held ag.held }

      by : (v : Bool) → capped ((if v then o + weigh bs else 0) + sum_at weigh m a)
          ≡ max (if v then q.held else 0) (highest m (f q))
          → capped ((if v then o else 0) + (weigh (if v then bs else []) + sum_at weigh m a))
          ≡ max (if v then at.held else 0) (max (if v then q.held else 0) (highest m (f q)))
      by true g = more_of o (weigh bs) at.held (sum_at weigh m a) (highest m (f q)) ag.held g
      by false g = ap (λ k. capped (0 + (k + sum_at weigh m a))) none ∙ none_of (sum_at weigh m a) (highest m (f q)) g

  -- below a level nothing stands at a node of it
  lower_sum : (d : ℕ) (x : Scopes) → level m < d → AllNodes (λ n. d ≤ level n) x → sum_at weigh m x ≡ 0
  lower_sum d End l h = refl
  lower_sum d (Both a b) l h = let p = lower_sum d a l h.0 in let q = lower_sum d b l h.1 in omega (arith, p, q)
  lower_sum d (Open x a) l h = by (x.node == m) refl (lower_sum d a l h.1)
    where
      by : (v : Bool) → (x.node == m) ≡ v → sum_at weigh m a ≡ 0 → weigh (if v then x.buffers else [])
          + sum_at weigh m a ≡ 0
      by true e r =
          let g = ap level (eqb-true x.node m e) in
          let k = h.0 in
          absurd (omega (arith, g, k, l))
      by false e r = omega (arith, none, r)

  -- a scope at a child, of a node that has it
  child_same : (env : whole.Env) (at : Stand) (o : ℕ) (bs outer : List ℕ) (k : ℕ) (x : A) (inner : whole.Env)
      → Agree env at o → k < s.children (node_of env)
      → node_of inner ≡ s.child (node_of env) k → Meets s ask x.0 inner outer
      → (Agree inner (at_other (child_at nodes at.node k) (capped (weigh bs)) at) (weigh bs))
      → Is at o (Open (record { node = node_of inner; buffers = bs }) (scopes_of s x.0 inner))
      (at_child nodes k (capped (weigh bs)) (tops nodes weigh x.0) at)
  child_same env at o bs outer k x inner ag less there ms agi =
      subst (λ n. Is at o (Open (record { node = n; buffers = bs }) (scopes_of s x.0 inner))
      (at_child nodes k (capped (weigh bs)) (tops nodes weigh x.0) at)) agi.here
      (subst (Is at o (Open (record { node = q.node; buffers = bs }) a))
      (sym (if-true (nat_lt k (node_at nodes at.node).children) (open_scope (tops nodes weigh x.0) q) End
      (lt-ltb k (node_at nodes at.node).children few)))
      (by (q.node == m) (at.node == m) refl refl (x.1 inner q (weigh bs) outer ms agi)))
    where
      q : Stand
      q = at_other (child_at nodes at.node k) (capped (weigh bs)) at

      a : Scopes
      a = scopes_of s x.0 inner

      few : k < (node_at nodes at.node).children
      few = subst (λ n. k < (node_at nodes n).children) (sym ag.here) less

      deeper : level q.node ≡ suc (level at.node)
      deeper = (layered buffers nodes offset are).below at.node k few

      nothing : at.node ≡ m → sum_at weigh m a ≡ 0
      nothing e =
          let g = ap level e in
          let d = deeper in
          lower_sum (suc (level at.node)) a (omega (arith, g))
          (all_nodes s ask (λ n. suc (level at.node) ≤ level n)
          (λ n c l h. let w = (layered buffers nodes offset are).below n c l in omega (arith, w, h)) x.0 inner outer ms
          (subst (λ n. suc (level at.node) ≤ level n) agi.here (omega (arith, d))))

      by : (u v : Bool) → (q.node == m) ≡ u → (at.node == m) ≡ v
          → capped ((if u then weigh bs else 0) + sum_at weigh m a)
          ≡ max (if u then q.held else 0) (highest m (tops nodes weigh x.0 q))
          → capped ((if v then o else 0) + (weigh (if u then bs else []) + sum_at weigh m a))
          ≡ max (if v then at.held else 0) (max (if u then q.held else 0) (highest m (tops nodes weigh x.0 q)))
      by true true e g h =
          let d = deeper in
          let p = ap level (eqb-true q.node m e) in
          let r = ap level (eqb-true at.node m g) in
          absurd (omega (arith, d, p, r))
      by true false e g h = first_of (weigh bs) (sum_at weigh m a) (highest m (tops nodes weigh x.0 q)) h
      by false true e g h = ap (λ k. capped (o + (k + sum_at weigh m a))) none
          ∙ above_of o at.held (sum_at weigh m a) (highest m (tops nodes weigh x.0 q)) ag.held
          (nothing (eqb-true at.node m g)) h
      by false false e g h = ap (λ k. capped (0 + (k + sum_at weigh m a))) none
          ∙ none_of (sum_at weigh m a) (highest m (tops nodes weigh x.0 q)) h

  within_same : (c : Option Num) (bs : List ℕ) (x : A) (env : whole.Env) (at : Stand) (o : ℕ) (outer : List ℕ)
      → IsChild s env c → Meets s ask x.0 (inside_of s env c) (bs ++ outer) → Agree env at o
      → Is at o (Open (record { node = node_of (inside_of s env c); buffers = bs })
      (scopes_of s x.0 (inside_of s env c))) (scope_tops nodes weigh c bs (tops nodes weigh x.0) at)
  within_same None bs x env at o outer h ms ag
      = here_same env at o bs (scopes_of s x.0 env) (tops nodes weigh x.0) ag
      (λ inner. x.1 env (with_more (capped (weigh bs)) at) (o + weigh bs) (bs ++ outer) ms inner)
  within_same (Some c) bs x env at o outer h ms ag =
      let k = count_of s c env in
      let there = if-true (suc env.level == suc env.level) (s.child (node_of env) k) (env.nodes (suc env.level))
      (eq-eqb (suc env.level) (suc env.level) refl) in
      subst (λ j. Is at o (Open (record { node = node_of (inside_of s env (Some c)); buffers = bs })
      (scopes_of s x.0 (inside_of s env (Some c))))
      (at_child nodes j (capped (weigh bs)) (tops nodes weigh x.0) at))
      (sym (count-is s env (env_at nodes at) (numbers env at o ag) c h.0))
      (child_same env at o bs (bs ++ outer) k x (inside_of s env (Some c)) ag h.1 there ms
      (record { turns = ag.turns; here = ap (λ n. child_at nodes n k) ag.here ∙ sym there; held = refl }))

  along : (x : Term) (a : AskedOfTerms) (f : TopsAt) (g : ScopesAt) → Meets s ask x ≡ a → tops nodes weigh x ≡ f
      → scopes_of s x ≡ g
      → ((env : whole.Env) (at : Stand) (o : ℕ) (bs : List ℕ) → a env bs → Agree env at o → Is at o (g env) (f at))
      → Same x
  along x a f g p q e h env at o bs k ag =
      subst (λ (z : TopsAt). Is at o (scopes_of s x env) (z at)) (sym q)
      (subst (λ (z : ScopesAt). Is at o (z env) (f at)) (sym e)
      (h env at o bs (subst (λ (z : AskedOfTerms). z env bs) p k) ag))

  same_step : (y : Term-F A) → Same (roll-Term (map-Term A Term (λ p. p.0) y))
  same_step Term-F.Skip = subst Same (sym t.rolls-Skip)
      (along _ _ _ _ (meets_skip s ask) (top_skip nodes weigh) (scopes_skip s)
      (λ env at o bs k ag. end_same at o ag.held))
  same_step (Term-F.Act a) = subst Same (sym (t.rolls-Act a))
      (along _ _ _ _ (meets_act s ask a) (top_act nodes weigh a) (scopes_act s a)
      (λ env at o bs k ag. end_same at o ag.held))
  same_step (Term-F.Seq xs) = subst Same (sym (t.rolls-Seq (terms xs)))
      (along _ _ _ _ (meets_seq s ask (terms xs)) (top_seq nodes weigh (terms xs)) (scopes_seq s (terms xs))
      (all_same xs))
  same_step (Term-F.Par xs) = subst Same (sym (t.rolls-Par (terms xs)))
      (along _ _ _ _ (meets_par s ask (terms xs)) (top_par nodes weigh (terms xs)) (scopes_par s (terms xs))
      (all_same xs))
  same_step (Term-F.Loop k x) = subst Same (sym (t.rolls-Loop k x.0))
      (along _ _ _ _ (meets_loop s ask k x.0) (top_loop nodes weigh k x.0) (scopes_loop s k x.0)
      (λ env at o bs h ag. loop_same x k env at o bs h.0 h.1 ag))
  same_step (Term-F.Spread k r x)
      = subst Same (sym (t.rolls-Spread k r x.0))
      (along _ _ _ _ (meets_spread s ask k r x.0) (top_spread nodes weigh k r x.0) (scopes_spread s k r x.0)
      (λ env at o bs h ag. loop_same x k env at o bs h.0 h.2 ag))
  same_step (Term-F.Case k xs) = subst Same (sym (t.rolls-Case k (terms xs)))
      (along _ _ _ _ (meets_case s ask k (terms xs)) (top_case nodes weigh k (terms xs)) (scopes_case s k (terms xs))
      (λ env at o bs h ag.
      subst (λ z. Is at o (nests.arm_at (map (scopes_of s) (terms xs)) (value_of s k env) env)
      (arm_at (map (tops nodes weigh) (terms xs)) z at))
      (sym (value-is s env (env_at nodes at) (numbers env at o ag) k h.0))
      (at_same xs (value_of s k env) env at o bs h.1 ag)))
  same_step (Term-F.Within c bs x)
      = subst Same (sym (t.rolls-Within c bs x.0))
      (along _ _ _ _ (meets_within s ask c bs x.0) (top_within nodes weigh c bs x.0) (scopes_within s c bs x.0)
      (λ env at o outer h ag.
      within_same c bs x env at o outer h.0 h.2 ag))

  pub are_same : (x : Term) → Same x
  are_same = ind-Term Same (λ x y is. subst (λ z. Same (roll-Term z)) is (same_step y))
