-- Sums of buffers whose scopes stand within one another, and buffers that stand one behind the other.
use Rattle.std.specs.Prelude.{◌≡◌, ℕ, ◌+◌, ◌^◌, ◌-◌, min, max, Bool, true, false, ◌||◌, ◌==◌, List, [], ◌∷◌, ◌++◌}
use Rattle.std.specs.Prelude.{if◌then◌else◌, Option, Some, None}
use Rattle.std.specs.List.{slice_get}
use Rattle.sq_ir.specs.Tree as tree
use Rattle.sq_ir.specs.Tree.{Tree}
use Rattle.sq_ir.specs.Scopes.{Scope}
use Rattle.sq_ir.specs.declared.plan.Buffer.{Buffer}
use Rattle.sq_nests.specs.Nests.{End, Both, Open, Named, Scopes}

-- ---- sums

-- what so many bytes come to in a number of 64 bits: the greatest one stands for all that pass it
unfoldable pub capped : ℕ → ℕ
capped n = min n (2 ^ 64 - 1)

abbrev pub total : (ℕ → ℕ) → List ℕ → ℕ
total size [] = 0
total size (b ∷ bs) = size b + total size bs

-- the buffers that a scope names at a node
abbrev pub at_node : ℕ → Scope → List ℕ
at_node node scope = if scope.node == node then scope.buffers else []

-- the greatest sum at a node of scopes that stand within one another, where a scope weighs what its buffers do
abbrev pub sum_at : (List ℕ → ℕ) → ℕ → Scopes → ℕ
sum_at weigh node End = 0
sum_at weigh node (Both a b) = max (sum_at weigh node a) (sum_at weigh node b)
sum_at weigh node (Open s a) = weigh (at_node node s) + sum_at weigh node a

-- the buffers that scopes within one another name at a node, from the outside in
pub data IsChain (node : ℕ) : Scopes → List ℕ → Type 0 where
  ends : {n : Scopes} → IsChain node n []
  left : {a b : Scopes} {bs : List ℕ} → IsChain node a bs → IsChain node (Both a b) bs
  right : {a b : Scopes} {bs : List ℕ} → IsChain node b bs → IsChain node (Both a b) bs
  opens : {s : Scope} {a : Scopes} {cs : List ℕ} → IsChain node a cs → IsChain node (Open s a) (at_node node s ++ cs)

-- ---- stacks

-- the buffers stand one behind the other from here on
abbrev pub Stand : (offset size : ℕ → ℕ) → (top : ℕ) → List ℕ → Type 0
Stand offset size top [] = Unit {0}
Stand offset size top (b ∷ bs) = (offset b ≡ top) × Stand offset size (top + size b) bs

-- at a node each scope's buffers stand behind those of the scopes round it
abbrev pub Stacked : (offset size : ℕ → ℕ) → (node top : ℕ) → Scopes → Type 0
Stacked offset size node top End = Unit {0}
Stacked offset size node top (Both a b) = Stacked offset size node top a × Stacked offset size node top b
Stacked offset size node top (Open s a) = Stand offset size top (at_node node s)
    × Stacked offset size node (top + total size (at_node node s)) a

-- ---- the buffers of one level in a term

-- a buffer of the level; one that isn't there has none
abbrev pub is_at : ℕ → Option Buffer → Bool
is_at level None = false
is_at level (Some b) = b.level == level

abbrev pub of_level : List Buffer → ℕ → ℕ → Bool
of_level buffers level b = is_at level (slice_get buffers b)

abbrev pub those : (ℕ → Bool) → List ℕ → List ℕ
those here [] = []
those here (b ∷ bs) = if here b then b ∷ those here bs else those here bs

-- each of these stands behind just the outer ones and those before it
abbrev pub OnStack : (before : ℕ → List ℕ) → (outer : List ℕ) → List ℕ → Type 0
OnStack before outer [] = Unit {0}
OnStack before outer (b ∷ bs) = (before b ≡ outer) × OnStack before (outer ++ b ∷ []) bs

-- each buffer that passes the test stands behind just the same others that do, wherever a scope names it
abbrev pub HaveBefore : (here : ℕ → Bool) → (before : ℕ → List ℕ) → (outer : List ℕ) → Named → Type 0
HaveBefore here before outer End = Unit {0}
HaveBefore here before outer (Both a b) = HaveBefore here before outer a × HaveBefore here before outer b
HaveBefore here before outer (Open bs a) = OnStack before outer (those here bs)
    × HaveBefore here before (outer ++ those here bs) a

-- The buffers lie one behind the other from here on. Where sums pass 64 bits, they all lie at the greatest number.
abbrev pub Lie : (offset size : ℕ → ℕ) → (base : ℕ) → List ℕ → Type 0
Lie offset size base [] = Unit {0}
Lie offset size base (b ∷ bs) = (offset b ≡ capped base) × Lie offset size (base + size b) bs

-- in a term each scope's buffers that pass the test lie behind those of the scopes round it
abbrev pub AreLaid : (here : ℕ → Bool) → (offset size : ℕ → ℕ) → (base : ℕ) → Named → Type 0
AreLaid here offset size base End = Unit {0}
AreLaid here offset size base (Both a b) = AreLaid here offset size base a × AreLaid here offset size base b
AreLaid here offset size base (Open bs a) = Lie offset size base (those here bs)
    × AreLaid here offset size (base + total size (those here bs)) a

-- ---- scopes beside one another

-- a scope of this node stands in the tree
abbrev pub stands_at : {E : Type 0} → ℕ → Tree E Scope → Bool
stands_at node tree.Skip = false
stands_at node (tree.Act e) = false
stands_at node (tree.Stuck e) = false
stands_at node (tree.Seq a b) = stands_at node a || stands_at node b
stands_at node (tree.Par a b) = stands_at node a || stands_at node b
stands_at node (tree.Within s a) = (s.node == node) || stands_at node a

-- two scopes that stand in two parts beside one another never have one node
abbrev pub AreAside : {E : Type 0} → Tree E Scope → Type 0
AreAside tree.Skip = Unit {0}
AreAside (tree.Act e) = Unit {0}
AreAside (tree.Stuck e) = Unit {0}
AreAside (tree.Seq a b) = AreAside a × AreAside b
AreAside (tree.Par a b) = AreAside a × AreAside b × ((node : ℕ) → stands_at node a ≡ true → stands_at node b ≡ false)
AreAside (tree.Within s a) = AreAside a
