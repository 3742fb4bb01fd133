-- Live buffers of the plan of lanes have room.
use Rattle.std.proofs.Common.{◌≡◌, ◌≢◌, ℕ, ◌+◌, ◌≤◌, List, [], ◌∷◌, refl, sym, ap, ◌∙◌, subst, ◌⊎◌, inl, inr, arith}
use Rattle.std.specs.List.{Contains}
use Rattle.sq_text.specs.declared.spread.SpreadRule.{SpreadRule}
use Rattle.sq_ir.specs.declared.plan.Leaf.{Leaf}
use Rattle.sq_ir.specs.Scopes.{Scope, MayBeOpen, InEachState}
use Rattle.sq_ir.specs.Written.{Setting}
use Rattle.sq_ir.specs.Plans.{setting_of, tree_of, IsLive, HaveRoom}
use Rattle.sq_ir.proofs.Open.{each-state}
use Rattle.sq_ir.proofs.OpenScopes.{contains-first, contains-none, HasScope, open-scope}
use Rattle.fixture_plans.specs.Lanes.{lanes}
use Rattle.fixture_plans.proofs.LaneTrees.{start_at, steps-tree, lane-tree, tree}

-- the array at the root, and the ints of a child
abbrev IsThere : (node b : ℕ) → Type 0
IsThere node b = ((0 ≡ node) × (0 ≡ b)) ⊎ (((1 ≡ node) ⊎ (2 ≡ node)) × (1 ≡ b))

one-name : (y b : ℕ) → Contains (y ∷ []) b → y ≡ b
one-name y b h = by (contains-first y [] b h)
  where
    by : (y ≡ b) ⊎ Contains [] b → y ≡ b
    by (inl e) = e
    by (inr c) = absurd (contains-none b c)

no-scope : (n k t : ℕ) (x : Scope) → HasScope (steps-tree n k t) x → ⊥
no-scope n k t x (inl h) = h
no-scope n k t x (inr (inl h)) = h
no-scope n k t x (inr (inr (inl h))) = h
no-scope n k t x (inr (inr (inr (inl h)))) = h
no-scope n k t x (inr (inr (inr (inr (inl h))))) = h
no-scope n k t x (inr (inr (inr (inr (inr h))))) = h

lane-scope : (n k t : ℕ) (x : Scope) → HasScope (lane-tree n k t) x → record { node = n; buffers = 1 ∷ [] } ≡ x
lane-scope n k t x (inl e) = e
lane-scope n k t x (inr h) = absurd (no-scope n k t x h)

there : (t u : ℕ) (l : List Scope) (node b : ℕ) → MayBeOpen (tree t u) l → IsLive l node b → IsThere node b
there t u l node b h v = by (open-scope (tree t u) l v.scope h v.open_)
  where
    named : (m c : ℕ) → record { node = m; buffers = c ∷ [] } ≡ v.scope → (m ≡ node) × (c ≡ b)
    named m c e = (
      ap (λ (x : Scope). x.node) e
          ∙ v.at,
      one-name c b (subst (λ (x : Scope). Contains x.buffers b) (sym e) v.names),
    )

    at_first : record { node = 1; buffers = 1 ∷ [] } ≡ v.scope → IsThere node b
    at_first e = let p = named 1 1 e in inr (inl p.0, p.1)

    by : HasScope (tree t u) v.scope → IsThere node b
    by (inl e) = inl (named 0 0 e)
    by (inr (inl (inl x))) = at_first (lane-scope 1 0 0 v.scope x)
    by (inr (inl (inr x))) = at_first (lane-scope 1 (start_at t) t v.scope x)
    by (inr (inr x)) = let p = named 2 1 (lane-scope 2 (start_at u) u v.scope x) in inr (inr p.0, p.1)

module _ (rule : SpreadRule) (leaf : Leaf) where
  abbrev s : Setting
  s = setting_of (lanes rule leaf)

  fits : (node b : ℕ) → IsThere node b → s.offset b + s.size b ≤ s.capacity node
  fits node b (inl h) = subst (λ m. s.offset b + s.size b ≤ s.capacity m) h.0
      (subst (λ c. s.offset c + s.size c ≤ 16) h.1 (omega arith))
  fits node b (inr (inl h, e)) = subst (λ m. s.offset b + s.size b ≤ s.capacity m) h
      (subst (λ c. s.offset c + s.size c ≤ 16) e (omega arith))
  fits node b (inr (inr h, e)) = subst (λ m. s.offset b + s.size b ≤ s.capacity m) h
      (subst (λ c. s.offset c + s.size c ≤ 16) e (omega arith))

  one-buffer : (node b c : ℕ) → IsThere node b → IsThere node c → b ≡ c
  one-buffer node b c (inl p) (inl q) = sym p.1 ∙ q.1
  one-buffer node b c (inr p) (inr q) = sym p.1 ∙ q.1
  one-buffer node b c (inl p) (inr (inl q, e)) = let z = p.0 ∙ sym q in cc
  one-buffer node b c (inl p) (inr (inr q, e)) = let z = p.0 ∙ sym q in cc
  one-buffer node b c (inr (inl q, e)) (inl p) = let z = p.0 ∙ sym q in cc
  one-buffer node b c (inr (inr q, e)) (inl p) = let z = p.0 ∙ sym q in cc

  room : (t u : ℕ) (l : List Scope) → MayBeOpen (tree t u) l → HaveRoom s l
  room t u l h =
      record {
        below = λ node b v. fits node b (there t u l node b h v);
        apart = λ node b c k v w ne x y. ne (one-buffer node b c (there t u l node b h v) (there t u l node c h w));
      }

  pub has-room : (t u : ℕ) → tree_of (lanes rule leaf) ≡ tree t u → InEachState (HaveRoom s) (tree_of (lanes rule leaf))
  has-room t u e = subst (InEachState (HaveRoom s)) (sym e) (each-state (HaveRoom s) (tree t u) (room t u))

  pub entry-room : HaveRoom s (record { node = 0; buffers = 0 ∷ [] } ∷ [])
  entry-room = room 0 0 (record { node = 0; buffers = 0 ∷ [] } ∷ [])
      (inr ([], ([], [], inl (inl refl), inl refl, refl), refl))
