-- A buffer that a scope of the term written out names ends within the capacity of the scope's node.
use Rattle.std.proofs.Common.{◌≡◌, ℕ, suc, ◌+◌, ◌<◌, ◌≤◌, ◌^◌, List, [], ◌∷◌, ◌++◌, length, get_or, Some, None, Bool, true, false, refl, sym, ap, subst, ◌∙◌, ◌⊎◌, inl, inr, arith}
use Rattle.std.specs.Prelude.{◌==◌, if◌then◌else◌, nat_abs}
use Rattle.std.specs.List.{Contains}
use Rattle.std.specs.Option.{option_map_or}
use Rattle.std.proofs.lemmas.Bool.{eqb-true}
use Rattle.std.proofs.lemmas.Option.{slice_get-get_or}
use Rattle.sq_ir.specs.Written.{Setting, Env, Value, value_step, value_of, at_turn, at_child, node_of, at_root}
use Rattle.sq_ir.specs.Plans.{of_buffer, node_at, placed}
use Rattle.sq_ir.specs.declared.num.Num.{Num}
use Rattle.sq_ir.specs.declared.num.Num.TheOpen.{Num-F}
use Rattle.sq_ir.specs.declared.num.Num.TheFolds.{fold-Num}
use Rattle.sq_ir.specs.declared.term.Term.{Term}
use Rattle.sq_ir.specs.declared.term.Term.TheOpen.{Term-F}
use Rattle.sq_ir.specs.declared.term.Term.TheFolds.{fold-Term}
use Rattle.sq_ir.specs.declared.plan.Buffer.{Buffer}
use Rattle.sq_ir.specs.declared.plan.Draft.{Draft}
use Rattle.sq_ir.specs.declared.plan.PlanNode.{PlanNode}
use Rattle.sq_ir.proofs.OpenScopes.{contains-first, contains-none}
use Rattle.sq_nests.specs.Nests.{Open, Scopes, ScopesAt, scopes_step, scopes_of, each_of, arm_at}
use Rattle.sq_nests.specs.Stacks.{total, at_node, sum_at, IsChain, ends, left, right, opens, Stacked, is_at, of_level}
use Rattle.sq_nests.specs.Levels.{AllNodes}
use Rattle.sq_nests.specs.Drafts.{whole, Nothing, IsPlaceable, HasSpace, AllLaid}
use Rattle.sq_nests.proofs.Chains.{chain_fits, greatest_chain, chain_stands, stand_below}
use Rattle.sq_nests.proofs.Levels.{are_stacked}
use Rattle.sq_nests.proofs.Machines.{layered, child-there, root-there}
use Rattle.sq_nests.proofs.Inside.{all_nodes}
use Rattle.sq_nests.proofs.Offsets.{same_scopes}
use mathlib.Core.Path.{fun_ext}

-- ---- chains

contains-both : (xs ys : List ℕ) (b : ℕ) → Contains (xs ++ ys) b → Contains xs b ⊎ Contains ys b
contains-both [] ys b c = inr c
contains-both (x ∷ xs) ys b c = by (contains-first x (xs ++ ys) b c) (contains-both xs ys b)
  where
    later : Contains xs b ⊎ Contains ys b → Contains (x ∷ xs) b ⊎ Contains ys b
    later (inl k) = inl (suc k.0, (let l = k.1 in omega (arith, l)), k.2)
    later (inr k) = inr k

    by : (x ≡ b) ⊎ Contains (xs ++ ys) b → (Contains (xs ++ ys) b → Contains xs b ⊎ Contains ys b) → Contains (x ∷ xs) b
        ⊎ Contains ys b
    by (inl e) f = inl (0, omega arith, e)
    by (inr i) f = later (f i)

chain_node : (P : ℕ → Type 0) (node : ℕ) {x : Scopes} {bs : List ℕ} (b : ℕ) → AllNodes P x → IsChain node x bs
    → Contains bs b → P node
chain_node P node b all ends c = absurd (contains-none b c)
chain_node P node b all (left d) c = chain_node P node b all.0 d c
chain_node P node b all (right d) c = chain_node P node b all.1 d c
chain_node P node b all (opens {s = s} {cs = cs} d) c
    = by (contains-both (at_node node s) cs b c) (chain_node P node b all.1 d)
  where
    mine : (u : Bool) → (s.node == node) ≡ u → Contains (if u then s.buffers else []) b → P node
    mine true e k = subst P (eqb-true s.node node e) all.0
    mine false e k = absurd (contains-none b k)

    by : Contains (at_node node s) b ⊎ Contains cs b → (Contains cs b → P node) → P node
    by (inl k) f = mine (s.node == node) refl k
    by (inr k) f = f k

level_there : (buffers : List Buffer) (level b : ℕ) → b < length buffers → of_level buffers level b
    ≡ (of_buffer buffers (λ x. x.level) b == level)
level_there buffers level b h =
    let nothing : Buffer = record { level = 0; size = 0; instance = []; array = [] } in
    let e = slice_get-get_or buffers b nothing h in
    ap (is_at level) e ∙ sym (ap (λ o. option_map_or (λ (x : Buffer). x.level) o 0 == level) e)

-- ---- one buffer alone

-- where the buffer alone has a size, of one byte
abbrev pub one : ℕ → ℕ → ℕ
one b c = if c == b then 1 else 0

abbrev pub seen : Setting → ℕ → Setting
seen s b = record {
  children = s.children;
  child = s.child;
  capacity = s.capacity;
  buffers = s.buffers;
  level = s.level;
  size = one b;
  offset = s.offset;
}

-- what weighs anything has it
pub weighs : (b : ℕ) (bs : List ℕ) → 1 ≤ total (one b) bs → Contains bs b
weighs b [] h = absurd (omega (arith, h))
weighs b (c ∷ bs) h = by (c == b) refl h (weighs b bs)
  where
    by : (v : Bool) → (c == b) ≡ v → 1 ≤ (if v then 1 else 0) + total (one b) bs → (1 ≤ total (one b) bs → Contains bs b) → Contains (c ∷ bs) b
    by true e l more = (0, omega arith, eqb-true c b e)
    by false e l more = let k = more (omega (arith, l)) in (suc k.0, (let m = k.1 in omega (arith, m)), k.2)

module _ (s : Setting) (b : ℕ) where
  abbrev u : Setting
  u = seen s b

  seen_value_step : value_step s ≡ value_step u
  seen_value_step = fun_ext (λ d. by d)
    where
      by : (d : Num-F Value) → value_step s d ≡ value_step u d
      by (Num-F.Const k) = refl
      by (Num-F.Index k) = refl
      by (Num-F.Add x y) = refl
      by (Num-F.Sub x y) = refl
      by (Num-F.Mul x y) = refl
      by (Num-F.Div x y) = refl
      by (Num-F.Rem x y) = refl
      by (Num-F.Min x y) = refl
      by (Num-F.Pick ks x) = refl
      by Num-F.Children = refl

  seen_value : (x : Num) (env : Env) → value_of s x env ≡ value_of u x env
  seen_value x env = ap (λ (f : Num-F Value → Value). fold-Num Value f x env) seen_value_step

  seen_step : (d : Term-F ScopesAt) → scopes_step s d ≡ scopes_step u d
  seen_step Term-F.Skip = refl
  seen_step (Term-F.Act a) = refl
  seen_step (Term-F.Seq ts) = refl
  seen_step (Term-F.Par ts) = refl
  seen_step (Term-F.Loop count body)
      = fun_ext (λ env. ap (λ k. each_of (nat_abs k) (λ t. body (at_turn env t)) 0) (seen_value count env))
  seen_step (Term-F.Spread count rule body)
      = fun_ext (λ env. ap (λ k. each_of (nat_abs k) (λ t. body (at_turn env t)) 0) (seen_value count env))
  seen_step (Term-F.Case pick arms) = fun_ext (λ env. ap (λ k. arm_at arms k env) (seen_value pick env))
  seen_step (Term-F.Within None buffers body) = refl
  seen_step (Term-F.Within (Some c) buffers body) = fun_ext (λ env.
      ap (λ k. Open (record { node = node_of (at_child s env (nat_abs k)); buffers = buffers })
      (body (at_child s env (nat_abs k)))) (seen_value c env))

  pub seen_scopes : (x : Term) (env : Env) → scopes_of s x env ≡ scopes_of u x env
  seen_scopes x env = ap (λ (f : Term-F ScopesAt → ScopesAt). fold-Term ScopesAt f x env) (fun_ext seen_step)

-- ---- a placed draft

module _ (d : Draft) (nodes : List PlanNode) (offsets : List ℕ) (can : IsPlaceable d nodes) (laid : AllLaid d offsets)
    (space : HasSpace d nodes) where
  abbrev offset : ℕ → ℕ
  offset b = get_or offsets b 0

  abbrev s : Setting
  s = placed d.buffers nodes offset

  abbrev x : Term
  x = whole d

  abbrev scopes : Scopes
  scopes = scopes_of s x at_root

  small : (node : ℕ) → node < length nodes → (node_at nodes node).capacity ≤ 2 ^ 30
  small node h =
      (can.machine.each node (node_at nodes node)
      (slice_get-get_or nodes node (record { level = 0; capacity = 0; first_child = 0; children = 0 }) h)).capacity

  few : (node : ℕ) → node < length nodes → (node_at nodes node).level < 8
  few node h =
      let c = (can.machine.each node (node_at nodes node)
      (slice_get-get_or nodes node (record { level = 0; capacity = 0; first_child = 0; children = 0 }) h)).level in
      let l = can.machine.few_levels in
      omega (arith, c, l)

  there : AllNodes (λ m. m < length nodes) scopes
  there = all_nodes s Nothing (λ m. m < length nodes) (λ n c less h. child-there nodes n c can.machine less) x at_root
      [] (can.term offset) (root-there nodes can.machine)

  fits : (node : ℕ) → node < length nodes → sum_at (total s.size) node scopes ≤ s.capacity node
  fits node h = subst (λ z. sum_at (total s.size) node z ≤ s.capacity node)
      (same_scopes d.buffers nodes (λ b. 0) offset x at_root) (space node h)

  stacked : (node : ℕ) → node < length nodes → Stacked offset s.size node 0 scopes
  stacked node h =
      let l = layered d.buffers nodes offset can.machine in
      let level = (node_at nodes node).level in
      let f = fits node h in
      let c = small node h in
      are_stacked s (λ n. (node_at nodes n).level) l Nothing (of_level d.buffers level) offset node
      (level_there d.buffers level) x at_root [] 0 0 (can.term offset) (laid level (few node h))
      (λ k le. l.root ∙ (omega (arith, le))) (record { at = λ le e. refl; above = λ lt. (refl, refl) })
      (omega (arith, f, c))

  chain_ends : (node b : ℕ) (bs : List ℕ) → IsChain node scopes bs → Contains bs b → offset b + s.size b ≤ 2 ^ 30
  chain_ends node b bs chain c =
      let less = chain_node (λ m. m < length nodes) node b there chain c in
      let w = stand_below offset s.size 0 bs b (chain_stands offset s.size node 0 (stacked node less) chain) c in
      let end = w.1 in
      let sum = chain_fits s.size node chain in
      let fit = fits node less in
      let most = small node less in
      omega (arith, end, sum, fit, most)

  -- a buffer that weighs something at some node, where it alone has a size
  pub seen_ends : (b node : ℕ) → 1 ≤ sum_at (total (one b)) node (scopes_of (seen s b) x at_root) → offset b + s.size b ≤ 2 ^ 30
  seen_ends b node h =
      let some = subst (λ (z : Scopes). 1 ≤ sum_at (total (one b)) node z) (sym (seen_scopes s b x at_root)) h in
      let g = greatest_chain (one b) node scopes in
      let is = g.2 in
      chain_ends node b g.0 g.1 (weighs b g.0 (omega (arith, is, some)))
