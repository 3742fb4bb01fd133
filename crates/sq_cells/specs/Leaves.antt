-- The leaf events of a tree, and the leaf calls of a work, counted.
use Rattle.std.specs.Prelude.{true, false, ◌<◌, ℕ, zero, suc, ◌+◌, ◌≡◌, Bool, ◌⊎◌, List, [], ◌∷◌, ◌++◌}
use Rattle.sq_cells.specs.Cells.{Spot}
use Rattle.sq_cells.specs.Tree.{Code, Action, Copy, Fill, Acc, Run, Tree, Empty, Act, Seq, Par}
use Rattle.sq_cells.specs.Work.{Work, Nothing, Then, Each, AtOnce, Call, Hold, Reduce, Piped, Leaf}
use Rattle.sq_cells.specs.Machine.{Node, child_of}
use Rattle.sq_cells.specs.Lowered.{Layout, node_of, in_place, lane_kid, tree, Needs, Sets, Sound}

-- how much a leaf event counts, by its code, its arrays and its path: 1 for one kind and 0 for the rest, say
abbrev pub Kind : Type 0
Kind = (code : Code) (count : ℕ) → (size : ℕ → ℕ) → (writes : ℕ → Bool) → List ℕ → ℕ

abbrev pub act_leaves : Kind → Action → ℕ
act_leaves f (Copy n from to) = 0
act_leaves f (Fill n v to) = 0
act_leaves f (Acc op n from to) = 0
act_leaves f (Run code count size writes cell path) = f code count size writes path

abbrev pub leaf_events : Kind → Tree → ℕ
leaf_events f Empty = 0
leaf_events f (Act a) = act_leaves f a
leaf_events f (Seq a b) = leaf_events f a + leaf_events f b
leaf_events f (Par a b) = leaf_events f a + leaf_events f b

abbrev pub sum_below : ℕ → (ℕ → ℕ) → ℕ
sum_below zero x = 0
sum_below (suc n) x = sum_below n x + x n

-- the calls of the source, with their paths
abbrev pub leaf_calls : Kind → Work → List ℕ → ℕ
leaf_calls f Nothing path = 0
leaf_calls f (Then a b) path = leaf_calls f a path + leaf_calls f b path
leaf_calls f (Each n w) path = sum_below n (λ t. leaf_calls f (w t) (path ++ t ∷ []))
leaf_calls f (AtOnce spread n w) path = sum_below n (λ t. leaf_calls f (w t) (path ++ t ∷ []))
leaf_calls f (Call form lower n arrays w) path = leaf_calls f w path
leaf_calls f (Hold form n arrays w) path = leaf_calls f w path
leaf_calls f (Reduce op size block which spread n form lower c arrays w) path
    = sum_below n (λ t. leaf_calls f (w t) (path ++ t ∷ []))
leaf_calls f (Piped spread n form second c arrays w) path = sum_below n (λ t. leaf_calls f (w t) (path ++ t ∷ []))
leaf_calls f (Leaf code n size writes) path = f code n size writes path

-- one leaf event for each leaf call and no other, with the call's path, code and arrays
abbrev pub LeavesAreCalls : Type 0
LeavesAreCalls = (f : Kind) (w : Work) (node : Node) (kid : ℕ) (at : Layout) (path : List ℕ) → Sound w node kid
    → leaf_events f (tree w node kid at path) ≡ leaf_calls f w path

-- the leaf events with a path
abbrev pub ActLeaf : Action → List ℕ → Type 0
ActLeaf (Copy n source to) p = ⊥
ActLeaf (Fill n v to) p = ⊥
ActLeaf (Acc op n source to) p = ⊥
ActLeaf (Run code count size writes cell path) p = path ≡ p

abbrev pub HasLeaf : Tree → List ℕ → Type 0
HasLeaf Empty p = ⊥
HasLeaf (Act a) p = ActLeaf a p
HasLeaf (Seq a b) p = HasLeaf a p ⊎ HasLeaf b p
HasLeaf (Par a b) p = HasLeaf a p ⊎ HasLeaf b p

abbrev pub PathsApart : Tree → Type 0
PathsApart Empty = Unit {0}
PathsApart (Act a) = Unit {0}
PathsApart (Seq a b) = PathsApart a × PathsApart b
PathsApart (Par a b) = PathsApart a × PathsApart b × ((p : List ℕ) → HasLeaf a p → HasLeaf b p → ⊥)

-- unordered leaf events have different paths
abbrev pub LeafPathsApart : Type 0
LeafPathsApart = (w : Work) (node : Node) (kid : ℕ) (at : Layout) (path : List ℕ) → PathsApart (tree w node kid at path)

-- a leaf call of the work with this code and path runs at this node
abbrev pub LeafAt : Work → (node : Node) (kid : ℕ) → (path : List ℕ) → (code : Code) → List ℕ → ℕ → Type 0
LeafAt Nothing node kid path code p x = ⊥
LeafAt (Then a b) node kid path code p x = LeafAt a node kid path code p x ⊎ LeafAt b node kid path code p x
LeafAt (Each n w) node kid path code p x = (t : ℕ) × (t < n) × LeafAt (w t) node kid (path ++ t ∷ []) code p x
LeafAt (AtOnce spread n w) node kid path code p x = (t : ℕ) × (t < n)
    × LeafAt (w t) node (lane_kid spread node kid n t) (path ++ t ∷ []) code p x
LeafAt (Call form lower n arrays w) node kid path code p x = LeafAt w (node_of lower node kid) 0 path code p x
LeafAt (Hold form n arrays w) node kid path code p x = LeafAt w node kid path code p x
LeafAt (Reduce op size block which spread n form lower c arrays w) node kid path code p x = (t : ℕ) × (t < n)
    × LeafAt (w t) (node_of lower node (lane_kid spread node kid n t)) 0 (path ++ t ∷ []) code p x
LeafAt (Piped spread n form second c arrays w) node kid path code p x = (t : ℕ) × (t < n)
    × LeafAt (w t) (child_of node (lane_kid spread node kid n t)) 0 (path ++ t ∷ []) code p x
LeafAt (Leaf code' n size writes) node kid path code p x = (code' ≡ code) × (path ≡ p) × (node.number ≡ x)

-- a leaf event is that of such a call, and all of its cells stand at the call's node
abbrev pub LeafPlaced : Work → (node : Node) (kid : ℕ) → (path : List ℕ) → Tree → Type 0
LeafPlaced w node kid path Empty = Unit {0}
LeafPlaced w node kid path (Act (Copy n from to)) = Unit {0}
LeafPlaced w node kid path (Act (Fill n v to)) = Unit {0}
LeafPlaced w node kid path (Act (Acc op n from to)) = Unit {0}
LeafPlaced w node kid path (Act (Run code count size writes cell p)) = (x : ℕ) × LeafAt w node kid path code p x
    × ((i k : ℕ) → i < count → k < size i → (cell i k).area ≡ x)
LeafPlaced w node kid path (Seq a b) = LeafPlaced w node kid path a × LeafPlaced w node kid path b
LeafPlaced w node kid path (Par a b) = LeafPlaced w node kid path a × LeafPlaced w node kid path b

-- in place only at one level
abbrev pub SameLevel : Work → Type 0
SameLevel Nothing = Unit {0}
SameLevel (Then a b) = SameLevel a × SameLevel b
SameLevel (Each n w) = (t : ℕ) → t < n → SameLevel (w t)
SameLevel (AtOnce spread n w) = (t : ℕ) → t < n → SameLevel (w t)
SameLevel (Call form lower n arrays w) = ((i : ℕ) → i < n → in_place (arrays i).place ≡ true → lower ≡ false)
    × SameLevel w
SameLevel (Hold form n arrays w) = SameLevel w
SameLevel (Reduce op size block which spread n form lower c arrays w) = (t : ℕ) → t < n
    → ((i : ℕ) → i < c t → in_place (arrays t i).place ≡ true → lower ≡ false) × SameLevel (w t)
SameLevel (Piped spread n form second c arrays w) = (t : ℕ) → t < n → SameLevel (w t)
SameLevel (Leaf code n size writes) = Unit {0}

-- each leaf event stands at the node of its call, with all of its arrays
abbrev pub LeavesPlaced : Type 0
LeavesPlaced = (w : Work) (node : Node) (kid : ℕ) (at : Layout) (path : List ℕ) → Sound w node kid → SameLevel w
    → ((l p : Spot) → Needs w node kid at l p ⊎ Sets w node kid at l p → (at l).area ≡ node.number)
    → LeafPlaced w node kid path (tree w node kid at path)
