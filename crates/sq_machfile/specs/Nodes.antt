-- The nodes of a machine: level by level, and in each level from the left.
use Rattle.std.specs.Prelude.{◌≡◌, ℕ, suc, ◌+◌, ◌≤◌, ◌==◌, if◌then◌else◌, List, [], ◌∷◌, take, map, replicate, filter, Some}
use Rattle.std.specs.List.{slice_get, flat_map}
use Rattle.sq_machfile.specs.declared.node.Node.{Node}

abbrev pub at_level : List Node → ℕ → List Node
at_level nodes level = filter (λ n. n.level == level) nodes

-- the sum of what f gives
abbrev pub total : {X : Type 0} → (X → ℕ) → List X → ℕ
total f [] = 0
total f (x ∷ xs) = f x + total f xs

abbrev pub children_of : Node → ℕ
children_of n = n.children

abbrev pub capacity_of : Node → ℕ
capacity_of n = n.capacity

-- the level below a node, once for each of its children
abbrev pub below : Node → List ℕ
below n = replicate n.children (suc n.level)

-- where the children begin of a node that has so many, if they stand behind those of the nodes before it
abbrev pub first_child : ℕ → ℕ → ℕ
first_child children next = if children == 0 then 0 else next

pub record AreArranged (nodes : List Node) : Type 0 where
  -- The nodes are the root, and then the children of the first node, those of the second, and so on, each one level
  -- below its parent.
  pub children : map (λ n. n.level) nodes ≡ 0 ∷ flat_map below nodes
  -- the children of a node stand behind those of the nodes before it
  pub first : (i : ℕ) (n : Node) → slice_get nodes i ≡ Some n → n.first_child ≡ first_child n.children (1 + total children_of (take i nodes))
  -- level by level
  pub sorted : (i j : ℕ) (a b : Node) → i ≤ j → slice_get nodes i ≡ Some a → slice_get nodes j ≡ Some b → a.level ≤ b.level

-- these nodes, each with the place of its first child, where the first children of the first stand here
abbrev pub linked : ℕ → List Node → List Node
linked next [] = []
linked next (n ∷ nodes) = record n { first_child = first_child n.children next } ∷ linked (next + n.children) nodes
