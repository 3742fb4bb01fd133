-- Nodes in the order of a text, and the same by their depths.
use Rattle.std.proofs.Common.{◌≡◌, ℕ, zero, suc, ◌+◌, ◌<◌, ◌≤◌, Bool, true, false, ◌==◌, nat_lt, if◌then◌else◌, List, [], ◌∷◌, length, ◌⊎◌, inl, inr, refl, sym, ◌∙◌, ap, subst, arith}
use Rattle.std.proofs.lemmas.Bool.Decides.{leb_tells, eqb_tells}
use Rattle.sq_lexer.specs.declared.token.Token.{Token}
use Rattle.sq_lexer.specs.declared.token.Kind.TheVariants as kind
use Rattle.sq_lexer.specs.declared.token.Sign.TheVariants as g
use Rattle.sq_lexer.specs.Tokens.{token}
use Rattle.sq_machfile.specs.declared.node.Node.{Node}
use Rattle.sq_machfile.specs.declared.text.NodeText.{NodeText}
use Rattle.sq_machfile.specs.declared.text.NodesText.{NodesText}
use Rattle.sq_machfile.specs.declared.text.MachineText.TheVariants.{Nodes}
use Rattle.sq_machfile.specs.declared.nested.Nested.{Nested}
use Rattle.sq_machfile.specs.Grammar.{word, numeral, node_text, Phrase, ANode, SomeNodes, AMachine, Derives, a_node, of_nodes, IsText}
use Rattle.sq_machfile.specs.Nesting.{siblings, nested_node, nested}
use Rattle.sq_machfile.specs.Nodes.{total, children_of}
use Rattle.sq_machfile.specs.Machines.{node_of, nodes_of_depth, by_level}
use Rattle.sq_machfile.proofs.Closings.{AreNested, are_nested, closing_inside}
use Rattle.sq_machfile.proofs.Walks.{total-append}
use Rattle.sq_machfile.proofs.Arranged.{Every, every-append, IsAt, Levelled, last, more}

-- ---- what the grammar tells of the nodes

-- the first is the root, and all others stand in it
pub record Rooted (nodes : List NodeText) : Type 0 where
  pub root : NodeText
  pub others : List NodeText
  pub is : nodes ≡ root ∷ others
  pub top : root.depth ≡ 0
  pub inside : AreNested 1 others

abbrev Shape : Phrase → Type 0
Shape (ANode zero nodes later) = later ≡ [] → Rooted nodes
Shape (AMachine (Nodes text)) = (1 ≤ length text.names) × Rooted text.nodes
Shape _ = Unit {0}

shape : {p : Phrase} {i j : List Token} → Derives p i j → Shape p
shape (a_node {depth = zero} {q = q} {t = t} {v = v} {name = name} {capacity = capacity} {nodes = nodes} {later = later} {i = i} {j = j} d) = λ e. record {
  root = node_text 0 (word q name) (numeral t capacity);
  others = nodes;
  is = refl;
  top = refl;
  inside = are_nested (closing_inside (subst (λ later. Derives (SomeNodes 1 nodes later) i (token (kind.Sign g.BraceClose) v ∷ j)) e d));
}
shape (a_node {depth = suc outer} d) = tt
shape (of_nodes d e) = (omega arith, shape e refl)
shape _ = tt

pub rooted : (tokens : List Token) (text : NodesText) → IsText tokens (Nodes text) → (1 ≤ length text.names) × Rooted text.nodes
rooted tokens text h = shape h.text

-- ---- children are the nodes one deeper

below_tells : (a b : ℕ) → ((nat_lt a b ≡ true) × (a < b)) ⊎ ((nat_lt a b ≡ false) × (b ≤ a))
below_tells a b = elim (leb_tells (suc a) b) [ inl h ↦ inl (h.0, omega (arith, h.1)) | inr h ↦ inr (h.0, omega (arith, h.1)) ]

-- behind a node no deeper one is a sibling of what is two deeper
none_deeper : (most k : ℕ) (later : List NodeText) → AreNested most later → most < k → siblings k later ≡ 0
none_deeper most k [] h lt = refl
none_deeper most k (n ∷ later) h lt =
    let less : nat_lt n.depth k ≡ true = grind (arith, leb_tells, h.1) in ap (λ b. if b then 0 else (if n.depth == k then 1 else 0) + siblings k later) less

abbrev Linked : ℕ → List NodeText → Type 0
Linked k xs = length (nodes_of_depth (suc k) (nested xs)) ≡ siblings (suc k) xs + total children_of (nodes_of_depth k (nested xs))

-- one node more, by how its depth compares
one_linked : (k : ℕ) (n : NodeText) (later : List NodeText) (less at deep : Bool) → AreNested (suc n.depth) later → Linked k later
    → nat_lt n.depth (suc k) ≡ less → (n.depth == k) ≡ at → (n.depth == suc k) ≡ deep
    → length (if deep then node_of (nested_node n (siblings (suc n.depth) later)) ∷ nodes_of_depth (suc k) (nested later) else nodes_of_depth (suc k) (nested later))
    ≡ (if less then 0 else (if deep then 1 else 0) + siblings (suc k) later)
    + total children_of (if at then node_of (nested_node n (siblings (suc n.depth) later)) ∷ nodes_of_depth k (nested later) else nodes_of_depth k (nested later))
one_linked k n later less at deep h l el ea ed = elim (below_tells n.depth (suc k)) [
  | inl p ↦ elim (eqb_tells n.depth k) [
    | inl e ↦
        (let less_is : less ≡ true = sym el ∙ p.0 in
        let at_is : at ≡ true = sym ea ∙ e.0 in
        let deep_is : deep ≡ false = sym ed ∙ grind (arith, eqb_tells, e.1) in
        let same : siblings (suc n.depth) later ≡ siblings (suc k) later = ap (λ k. siblings (suc k) later) e.1 in
        rw less_is (rw at_is (rw deep_is (omega (arith, l, same)))))
    | inr e ↦
        (let less_is : less ≡ true = sym el ∙ p.0 in
        let at_is : at ≡ false = sym ea ∙ e.0 in
        let deep_is : deep ≡ false = sym ed ∙ grind (arith, eqb_tells, p.1) in
        let none : siblings (suc k) later ≡ 0 = none_deeper (suc n.depth) (suc k) later h (omega (arith, p.1, e.1)) in
        rw less_is (rw at_is (rw deep_is (omega (arith, l, none)))))
  ]
  | inr p ↦
      (let less_is : less ≡ false = sym el ∙ p.0 in
      let at_is : at ≡ false = sym ea ∙ grind (arith, eqb_tells, p.1) in
      rw less_is (rw at_is (deeper deep)))
]
  where
    deeper : (deep : Bool) → length (if deep then node_of (nested_node n (siblings (suc n.depth) later)) ∷ nodes_of_depth (suc k) (nested later) else nodes_of_depth (suc k) (nested later))
        ≡ ((if deep then 1 else 0) + siblings (suc k) later) + total children_of (nodes_of_depth k (nested later))
    deeper true = omega (arith, l)
    deeper false = omega (arith, l)

more_linked : (k : ℕ) (n : NodeText) (later : List NodeText) → AreNested (suc n.depth) later → Linked k later → Linked k (n ∷ later)
more_linked k n later h l = one_linked k n later (nat_lt n.depth (suc k)) (n.depth == k) (n.depth == suc k) h l refl refl refl

all_linked : (most k : ℕ) (xs : List NodeText) → AreNested most xs → Linked k xs
all_linked most k [] h = refl
all_linked most k (n ∷ later) h = more_linked k n later h.2 (all_linked (suc n.depth) k later h.2)

-- in a whole text
pub children_below : (k : ℕ) (root : NodeText) (others : List NodeText) → root.depth ≡ 0 → AreNested 1 others
    → total children_of (nodes_of_depth k (nested (root ∷ others))) ≡ length (nodes_of_depth (suc k) (nested (root ∷ others)))
children_below k root others top h =
    let deeper : AreNested (suc root.depth) others = subst (λ d. AreNested (suc d) others) (sym top) h in
    let whole : Linked k (root ∷ others) = more_linked k root others deeper (all_linked 1 k others h) in
    let less : nat_lt root.depth (suc k) ≡ true = grind (arith, leb_tells, top) in
    let none : siblings (suc k) (root ∷ others) ≡ 0 = ap (λ b. if b then 0 else (if root.depth == suc k then 1 else 0) + siblings (suc k) others) less in
    omega (arith, whole, none)

-- ---- level by level

abbrev Tells : ℕ → ℕ → Bool → Type 0
Tells a b true = a ≡ b
Tells a b false = Unit {0}

tells : (a b : ℕ) → Tells a b (a == b)
tells a b = elim (eqb_tells a b) [ inl h ↦ rw h.0 h.1 | inr h ↦ rw h.0 tt ]

pub at_depth : (k : ℕ) (ns : List Nested) → Every (IsAt k) (nodes_of_depth k ns)
at_depth k [] = tt
at_depth k (n ∷ ns) = by_case (n.depth == k) (at_depth k ns) (tells n.depth k)
  where
    by_case : (b : Bool) → Every (IsAt k) (nodes_of_depth k ns) → Tells n.depth k b → Every (IsAt k) (if b then node_of n ∷ nodes_of_depth k ns else nodes_of_depth k ns)
    by_case true later h = (h, later)
    by_case false later h = later

pub levelled : (ns : List Nested) → ((k : ℕ) → total children_of (nodes_of_depth k ns) ≡ length (nodes_of_depth (suc k) ns))
    → (k levels : ℕ) → length (nodes_of_depth (suc k + levels) ns) ≡ 0 → Levelled k (nodes_of_depth k ns) (by_level (suc k) levels ns)
levelled ns link k zero none = let at : suc k + 0 ≡ suc k = omega arith in last (at_depth k ns) (link k ∙ ap (λ d. length (nodes_of_depth d ns)) (sym at) ∙ none)
levelled ns link k (suc levels) none = let at : suc (suc k) + levels ≡ suc k + suc levels = omega arith in
    more (at_depth k ns) (link k) (levelled ns link (suc k) levels (ap (λ d. length (nodes_of_depth d ns)) at ∙ none))

-- ---- what is summed

-- what a node adds to so many levels from the k-th on
abbrev share : (Node → ℕ) → ℕ → ℕ → Nested → ℕ
share f k zero n = 0
share f k (suc levels) n = (if n.depth == k then f (node_of n) else 0) + share f (suc k) levels n

total_none : (ns : List Nested) → total (λ n. 0) ns ≡ 0
total_none [] = refl
total_none (n ∷ ns) = omega (arith, total_none ns)

total_both : (f g : Nested → ℕ) (ns : List Nested) → total (λ n. f n + g n) ns ≡ total f ns + total g ns
total_both f g [] = refl
total_both f g (n ∷ ns) = omega (arith, total_both f g ns)

total_depth : (f : Node → ℕ) (k : ℕ) (ns : List Nested) → total f (nodes_of_depth k ns) ≡ total (λ n. if n.depth == k then f (node_of n) else 0) ns
total_depth f k [] = refl
total_depth f k (n ∷ ns) = by_case (n.depth == k) (total_depth f k ns)
  where
    by_case : (b : Bool) → total f (nodes_of_depth k ns) ≡ total (λ n. if n.depth == k then f (node_of n) else 0) ns
        → total f (if b then node_of n ∷ nodes_of_depth k ns else nodes_of_depth k ns) ≡ (if b then f (node_of n) else 0) + total (λ n. if n.depth == k then f (node_of n) else 0) ns
    by_case true e = omega (arith, e)
    by_case false e = omega (arith, e)

total_shares : (f : Node → ℕ) (k levels : ℕ) (ns : List Nested) → total f (by_level k levels ns) ≡ total (share f k levels) ns
total_shares f k zero ns = sym (total_none ns)
total_shares f k (suc levels) ns =
    let sum = total-append f (nodes_of_depth k ns) (by_level (suc k) levels ns) in
    let both = total_both (λ n. if n.depth == k then f (node_of n) else 0) (share f (suc k) levels) ns in
    omega (arith, sum, both, total_depth f k ns, total_shares f (suc k) levels ns)

no_share : (f : Node → ℕ) (k levels : ℕ) (n : Nested) → n.depth < k → share f k levels n ≡ 0
no_share f k zero n lt = refl
no_share f k (suc levels) n lt =
    let other : (n.depth == k) ≡ false = grind (arith, eqb_tells) in
    ap (λ b. (if b then f (node_of n) else 0) + share f (suc k) levels n) other ∙ (let more = no_share f (suc k) levels n (omega arith) in omega (arith, more))

whole_share : (f : Node → ℕ) (k levels : ℕ) (n : Nested) → k ≤ n.depth → n.depth < k + levels → share f k levels n ≡ f (node_of n)
whole_share f k zero n low high = absurd (omega arith)
whole_share f k (suc levels) n low high = elim (eqb_tells n.depth k) [
  | inl e ↦ (ap (λ b. (if b then f (node_of n) else 0) + share f (suc k) levels n) e.0 ∙ (let none = no_share f (suc k) levels n (omega (arith, e.1)) in omega (arith, none)))
  | inr e ↦ (ap (λ b. (if b then f (node_of n) else 0) + share f (suc k) levels n) e.0 ∙ (let more = whole_share f (suc k) levels n (omega (arith, e.1, low)) (omega (arith, high)) in omega (arith, more)))
]

abbrev pub IsWithin : ℕ → Nested → Type 0
IsWithin levels n = n.depth < levels

all_shares : (f : Node → ℕ) (levels : ℕ) (ns : List Nested) → Every (IsWithin levels) ns → total (share f 0 levels) ns ≡ total (λ n. f (node_of n)) ns
all_shares f levels [] h = refl
all_shares f levels (n ∷ ns) h = let own = whole_share f 0 levels n (omega arith) (omega (arith, h.0)) in omega (arith, own, all_shares f levels ns h.1)

-- a sum over the nodes level by level is the sum over them in the order of the text
pub same_total : (f : Node → ℕ) (levels : ℕ) (ns : List Nested) → Every (IsWithin levels) ns → total f (by_level 0 levels ns) ≡ total (λ n. f (node_of n)) ns
same_total f levels ns h = total_shares f 0 levels ns ∙ all_shares f levels ns h

-- ---- what holds of each

every_depth : (P : Node → Type 0) (k : ℕ) (ns : List Nested) → Every (λ n. P (node_of n)) ns → Every P (nodes_of_depth k ns)
every_depth P k [] h = tt
every_depth P k (n ∷ ns) h = by_case (n.depth == k) (every_depth P k ns h.1)
  where
    by_case : (b : Bool) → Every P (nodes_of_depth k ns) → Every P (if b then node_of n ∷ nodes_of_depth k ns else nodes_of_depth k ns)
    by_case true later = (h.0, later)
    by_case false later = later

pub every_by_level : (P : Node → Type 0) (k levels : ℕ) (ns : List Nested) → Every (λ n. P (node_of n)) ns → Every P (by_level k levels ns)
every_by_level P k zero ns h = tt
every_by_level P k (suc levels) ns h = every-append P (nodes_of_depth k ns) (by_level (suc k) levels ns) (every_depth P k ns h) (every_by_level P (suc k) levels ns h)
