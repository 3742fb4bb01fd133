-- Nodes that stand in one another, as braces that open and close.
use Rattle.std.proofs.Common.{◌≡◌, ℕ, zero, suc, ◌≤◌, List, [], ◌∷◌, length, refl, pos, codes, arith, subst}
use Rattle.sq_text.specs.declared.place.Place.{Place}
use Rattle.sq_lexer.specs.declared.token.Token.{Token}
use Rattle.sq_lexer.specs.declared.token.Kind.TheVariants as k
use Rattle.sq_lexer.specs.declared.token.Sign.TheVariants as g
use Rattle.sq_lexer.specs.Tokens.{token}
use Rattle.sq_machfile.specs.declared.text.NodeText.{NodeText}
use Rattle.sq_machfile.specs.Grammar.{word, numeral, node_text, Phrase, ANode, SomeNodes, Derives, a_node, no_nodes, one_more_node}

-- The first tokens close so many nodes, with these nodes in them, and the second are left.
pub data Closing : ℕ → List NodeText → List Token → List Token → Type 0 where
  closed : {i : List Token} → Closing 0 [] i i
  closes : {outer : ℕ} {v : Place} {nodes : List NodeText} {i j : List Token} → Closing outer nodes i j → Closing (suc outer) nodes (token (k.Sign g.BraceClose) v ∷ i) j
  opens : {outer : ℕ} {p q r s t u : Place} {name : List ℕ} {capacity : ℕ} {nodes : List NodeText} {i j : List Token}
      → Closing (suc (suc outer)) nodes i j
      → Closing (suc outer) (node_text (suc outer) (word q name) (numeral t capacity) ∷ nodes)
      (token (k.Word (codes "node")) p ∷ token (k.Word name) q ∷ token (k.Sign g.BraceOpen) r ∷ token (k.Word (codes "capacity")) s
      ∷ token (k.Number (pos capacity)) t ∷ token (k.Sign g.Semi) u ∷ i) j

-- the nodes in each of so many open nodes, the innermost first
abbrev Stack : ℕ → List NodeText → List Token → List Token → Type 0
Stack zero nodes i j = (nodes ≡ []) × (i ≡ j)
Stack (suc outer) nodes i j = (later : List NodeText) × (v : Place) × (l : List Token) × Derives (SomeNodes (suc outer) nodes later) i (token (k.Sign g.BraceClose) v ∷ l) × Stack outer later l j

stacked : {outer : ℕ} {nodes : List NodeText} {i j : List Token} → Closing outer nodes i j → Stack outer nodes i j
stacked closed = (refl, refl)
stacked (closes {v = v} {nodes = nodes} {i = i} c) = (nodes, v, i, no_nodes, stacked c)
stacked (opens c) = let h = stacked c in let k = h.4 in (k.0, k.1, k.2, one_more_node (a_node h.3) k.3, k.4)

-- the nodes in one open node
pub inside : {nodes : List NodeText} {i j : List Token} → Closing 1 nodes i j → (v : Place) × Derives (SomeNodes 1 nodes []) i (token (k.Sign g.BraceClose) v ∷ j)
inside {nodes} {i} {j} c = let h = stacked c in (
  h.1,
  subst (λ later. Derives (SomeNodes 1 nodes later) i (token (k.Sign g.BraceClose) h.1 ∷ j)) h.4.0
      (subst (λ l. Derives (SomeNodes 1 nodes h.0) i (token (k.Sign g.BraceClose) h.1 ∷ l)) h.4.1 h.3),
)

-- ---- the other way

abbrev Closes : Phrase → List Token → List Token → Type 0
Closes (ANode (suc outer) nodes later) i j = (l : List Token) → Closing (suc outer) later j l → Closing (suc outer) nodes i l
Closes (SomeNodes (suc outer) nodes later) i j = (l : List Token) → Closing (suc outer) later j l → Closing (suc outer) nodes i l
Closes _ i j = Unit {0}

closing : {p : Phrase} {i j : List Token} → Derives p i j → Closes p i j
closing (a_node {depth = zero} d) = tt
closing (a_node {depth = suc outer} d) = λ l c. opens (closing d l (closes c))
closing (no_nodes {depth = zero}) = tt
closing (no_nodes {depth = suc outer}) = λ l c. c
closing (one_more_node {depth = zero} d e) = tt
closing (one_more_node {depth = suc outer} d e) = λ l c. closing d l (closing e l c)
closing _ = tt

pub closing_inside : {nodes : List NodeText} {v : Place} {i j : List Token} → Derives (SomeNodes 1 nodes []) i (token (k.Sign g.BraceClose) v ∷ j) → Closing 1 nodes i j
closing_inside {j = j} d = closing d j (closes closed)

pub shorter : {outer : ℕ} {nodes : List NodeText} {i j : List Token} → Closing outer nodes i j → length j ≤ length i
shorter closed = omega arith
shorter (closes c) = omega (arith, shorter c)
shorter (opens c) = omega (arith, shorter c)

-- ---- depths

-- a node is at most one deeper than the one before it, and in the root
abbrev pub AreNested : ℕ → List NodeText → Type 0
AreNested most [] = Unit {0}
AreNested most (n ∷ later) = (1 ≤ n.depth) × (n.depth ≤ most) × AreNested (suc n.depth) later

deeper : (m n : ℕ) (nodes : List NodeText) → m ≤ n → AreNested m nodes → AreNested n nodes
deeper m n [] le h = tt
deeper m n (x ∷ nodes) le h = (h.0, omega (arith, h.1, le), h.2)

pub are_nested : {outer : ℕ} {nodes : List NodeText} {i j : List Token} → Closing outer nodes i j → AreNested outer nodes
are_nested closed = tt
are_nested (closes {outer = outer} {nodes = nodes} c) = deeper outer (suc outer) nodes (omega arith) (are_nested c)
are_nested (opens c) = (omega arith, omega arith, are_nested c)
