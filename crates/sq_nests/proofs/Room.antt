-- Where buffers are laid and sums keep to the capacities, the live buffers have room in each state.
use Rattle.std.proofs.Common.{◌≡◌, ℕ, suc, ◌+◌, ◌<◌, ◌≤◌, ◌^◌, List, [], ◌∷◌, ◌++◌, length, get_or, None, Bool, true}
use Rattle.std.proofs.Common.{false, refl, sym, ap, subst, ◌∙◌, ◌⊎◌, inl, inr, arith}
use Rattle.std.specs.Prelude.{◌==◌, if◌then◌else◌}
use Rattle.std.specs.List.{Contains}
use Rattle.std.specs.Option.{option_map_or}
use Rattle.std.proofs.lemmas.Bool.{eqb-true, eq-eqb}
use Rattle.std.proofs.lemmas.Option.{slice_get-get_or}
use Rattle.sq_ir.specs.Scopes.{Scope, InEachState}
use Rattle.sq_ir.specs.Written.{Setting, PlanTree, at_root, written}
use Rattle.sq_ir.specs.Plans.{of_buffer, node_at, setting_of, tree_of, IsLive, HasByte, HaveRoom}
use Rattle.sq_ir.specs.declared.term.Term.{Term}
use Rattle.sq_ir.specs.declared.plan.Buffer.{Buffer}
use Rattle.sq_ir.specs.declared.plan.Draft.{Draft}
use Rattle.sq_ir.specs.declared.plan.PlanNode.{PlanNode}
use Rattle.sq_ir.specs.declared.plan.Plan.{Plan}
use Rattle.sq_ir.proofs.Equations.{written_within}
use Rattle.sq_ir.proofs.Open.{each-state}
use Rattle.sq_ir.proofs.OpenScopes.{contains-first, contains-none}
use Rattle.sq_nests.specs.Nests.{Scopes, scopes_of}
use Rattle.sq_nests.specs.Stacks.{total, at_node, sum_at, IsChain, ends, left, right, opens, Stand, Stacked, is_at}
use Rattle.sq_nests.specs.Stacks.{of_level}
use Rattle.sq_nests.specs.Levels.{AllNodes}
use Rattle.sq_nests.specs.Drafts.{whole, Nothing, IsPlaceable, HasSpace, AllLaid, LaidHaveRoom}
use Rattle.sq_nests.proofs.Chains.{chain_fits, chain_stands, stand_below, stand_apart, names, open_chain}
use Rattle.sq_nests.proofs.Equations.{scopes_within}
use Rattle.sq_nests.proofs.Trees.{chains_held}
use Rattle.sq_nests.proofs.Levels.{are_stacked}
use Rattle.sq_nests.proofs.Machines.{layered, child-there, root-there}
use Rattle.sq_nests.proofs.Inside.{all_nodes}
use Rattle.sq_nests.proofs.Offsets.{same_scopes}

-- ---- elements of lists

contains-left : {X : Type 0} (xs ys : List X) (x : X) → Contains xs x → Contains (xs ++ ys) x
contains-left [] ys x c = absurd (contains-none x c)
contains-left (y ∷ xs) ys x c = by (contains-first y xs x c) (contains-left xs ys x)
  where
    by : (y ≡ x) ⊎ Contains xs x → (Contains xs x → Contains (xs ++ ys) x) → Contains (y ∷ (xs ++ ys)) x
    by (inl e) f = (0, omega arith, e)
    by (inr i) f = let k = f i in (suc k.0, (let l = k.1 in omega (arith, l)), k.2)

contains-right : {X : Type 0} (xs ys : List X) (x : X) → Contains ys x → Contains (xs ++ ys) x
contains-right [] ys x c = c
contains-right (y ∷ xs) ys x c = let k = contains-right xs ys x c in (suc k.0, (let l = k.1 in omega (arith, l)), k.2)

-- what is live at a node is named there
live-named : (l : List Scope) (node b : ℕ) → IsLive l node b → Contains (names node l) b
live-named [] node b v = absurd (contains-none v.scope v.open_)
live-named (x ∷ l) node b v = by (contains-first x l v.scope v.open_)
    (λ i. live-named l node b (record { scope = v.scope; open_ = i; at = v.at; names = v.names }))
  where
    mine : (u : Bool) → u ≡ true → Contains x.buffers b → Contains (if u then x.buffers else []) b
    mine true e c = c
    mine false e c = absurd (let z = e in cc)

    by : (x ≡ v.scope) ⊎ Contains l v.scope → (Contains l v.scope → Contains (names node l) b)
        → Contains (at_node node x ++ names node l) b
    by (inl e) f = contains-left (at_node node x) (names node l) b
        (mine (x.node == node) (eq-eqb x.node node (ap (λ (z : Scope). z.node) e ∙ v.at))
        (subst (λ (z : Scope). Contains z.buffers b) (sym e) v.names))
    by (inr i) f = contains-right (at_node node x) (names node l) b (f i)

contains-both : (xs ys : List ℕ) (b : ℕ) → Contains (xs ++ ys) b → Contains xs b ⊎ Contains ys b
contains-both [] ys b c = inr c
contains-both (x ∷ xs) ys b c = by (contains-first x (xs ++ ys) b c) (contains-both xs ys b)
  where
    later : Contains xs b ⊎ Contains ys b → Contains (x ∷ xs) b ⊎ Contains ys b
    later (inl k) = inl (suc k.0, (let l = k.1 in omega (arith, l)), k.2)
    later (inr k) = inr k

    by : (x ≡ b) ⊎ Contains (xs ++ ys) b → (Contains (xs ++ ys) b → Contains xs b ⊎ Contains ys b) → Contains (x ∷ xs) b
        ⊎ Contains ys b
    by (inl e) f = inl (0, omega arith, e)
    by (inr i) f = later (f i)

-- a node of a chain that names a buffer is one of a scope
chain_node : (P : ℕ → Type 0) (node : ℕ) {x : Scopes} {bs : List ℕ} (b : ℕ) → AllNodes P x → IsChain node x bs
    → Contains bs b → P node
chain_node P node b all ends c = absurd (contains-none b c)
chain_node P node b all (left d) c = chain_node P node b all.0 d c
chain_node P node b all (right d) c = chain_node P node b all.1 d c
chain_node P node b all (opens {s = s} {cs = cs} d) c
    = by (contains-both (at_node node s) cs b c) (chain_node P node b all.1 d)
  where
    mine : (u : Bool) → (s.node == node) ≡ u → Contains (if u then s.buffers else []) b → P node
    mine true e k = subst P (eqb-true s.node node e) all.0
    mine false e k = absurd (contains-none b k)

    by : Contains (at_node node s) b ⊎ Contains cs b → (Contains cs b → P node) → P node
    by (inl k) f = mine (s.node == node) refl k
    by (inr k) f = f k

-- the level of a buffer that is there
level_there : (buffers : List Buffer) (level b : ℕ) → b < length buffers → of_level buffers level b
    ≡ (of_buffer buffers (λ x. x.level) b == level)
level_there buffers level b h =
    let nothing : Buffer = record { level = 0; size = 0; instance = []; array = [] } in
    let e = slice_get-get_or buffers b nothing h in
    ap (is_at level) e ∙ sym (ap (λ o. option_map_or (λ (x : Buffer). x.level) o 0 == level) e)

module _ (d : Draft) (nodes : List PlanNode) (offsets : List ℕ) (can : IsPlaceable d nodes) (laid : AllLaid d offsets)
    (space : HasSpace d nodes) where
  abbrev p : Plan
  p = record { draft = d; offsets = offsets; nodes = nodes }

  abbrev offset : ℕ → ℕ
  offset b = get_or offsets b 0

  abbrev s : Setting
  s = setting_of p

  abbrev x : Term
  x = whole d

  abbrev tree : PlanTree
  tree = written s x at_root

  tree_is : tree_of p ≡ tree
  tree_is = sym (ap (λ f. f at_root) (written_within s None d.entry d.term))

  abbrev all : Scopes
  all = scopes_of s x at_root

  small : (node : ℕ) → node < length nodes → (node_at nodes node).capacity < 2 ^ 64
  small node h =
      let c = (can.machine.each node (node_at nodes node)
      (slice_get-get_or nodes node (record { level = 0; capacity = 0; first_child = 0; children = 0 }) h)).capacity
      in
      omega (arith, c)

  few : (node : ℕ) → node < length nodes → (node_at nodes node).level < 8
  few node h =
      let c = (can.machine.each node (node_at nodes node)
      (slice_get-get_or nodes node (record { level = 0; capacity = 0; first_child = 0; children = 0 }) h)).level in
      let l = can.machine.few_levels in
      omega (arith, c, l)

  there : AllNodes (λ m. m < length nodes) all
  there = all_nodes s Nothing (λ m. m < length nodes) (λ n c less h. child-there nodes n c can.machine less) x at_root
      [] (can.term offset) (root-there nodes can.machine)

  fits : (node : ℕ) → node < length nodes → sum_at (total s.size) node all ≤ s.capacity node
  fits node h = subst (λ z. sum_at (total s.size) node z ≤ s.capacity node)
      (same_scopes d.buffers nodes (λ b. 0) offset x at_root) (space node h)

  stacked : (node : ℕ) → node < length nodes → Stacked offset s.size node 0 all
  stacked node h =
      let l = layered d.buffers nodes offset can.machine in
      let level = (node_at nodes node).level in
      let f = fits node h in
      let c = small node h in
      are_stacked s (λ n. (node_at nodes n).level) l Nothing (of_level d.buffers level) offset node
      (level_there d.buffers level) x at_root [] 0 0 (can.term offset) (laid level (few node h))
      (λ k le. l.root ∙ (omega (arith, le))) (record { at = λ le e. refl; above = λ lt. (refl, refl) })
      (omega (arith, f, c))

  -- scopes of which those of one node are a chain
  module _ (l : List Scope) (chain : (node : ℕ) → IsChain node all (names node l)) where
    node_there : (node b : ℕ) → IsLive l node b → node < length nodes
    node_there node b v = chain_node (λ m. m < length nodes) node b there (chain node) (live-named l node b v)

    stands : (node b : ℕ) → IsLive l node b → Stand offset s.size 0 (names node l)
    stands node b v = chain_stands offset s.size node 0 (stacked node (node_there node b v)) (chain node)

    room : HaveRoom s l
    room = record {
      below = λ node b v.
          let w = stand_below offset s.size 0 (names node l) b (stands node b v) (live-named l node b v) in
          let f = chain_fits s.size node (chain node) in
          let g = fits node (node_there node b v) in
          let z = w.1 in
          omega (arith, z, f, g);
      apart = λ node b c k v u ne i j. either
          (stand_apart offset s.size 0 (names node l) b c (stands node b v) (live-named l node b v)
          (live-named l node c u) ne) i j;
    }
      where
        either : {b c k : ℕ} → (offset b + s.size b ≤ offset c) ⊎ (offset c + s.size c ≤ offset b) → HasByte s b k
            → HasByte s c k → ⊥
        either (inl h) i j = let m = i.below in let n = j.from in omega (arith, h, m, n)
        either (inr h) i j = let m = i.from in let n = j.below in omega (arith, h, m, n)

  states : InEachState (HaveRoom s) (tree_of p)
  states = subst (InEachState (HaveRoom s)) (sym tree_is) (each-state (HaveRoom s) tree (λ l h.
      room l (λ node. chains_held node s x at_root (names node l) (open_chain node tree l (can.aside offset) h))))

  entry : HaveRoom s (record { node = 0; buffers = d.entry } ∷ [])
  entry = room (record { node = 0; buffers = d.entry } ∷ []) (λ node.
      subst (λ z. IsChain node z (names node (record { node = 0; buffers = d.entry } ∷ [])))
      (sym (ap (λ f. f at_root) (scopes_within s None d.entry d.term))) (opens ends))

pub laid_have_room : LaidHaveRoom
laid_have_room d nodes offsets can laid space
    = record { states = states d nodes offsets can laid space; entry = entry d nodes offsets can laid space }
