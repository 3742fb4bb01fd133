-- Parents and children, by the indices of nodes.
use Rattle.std.specs.Prelude.{◌≡◌, ℕ, ◌+◌, ◌<◌, ◌≤◌, nat_lt, List, length, filter, Some}
use Rattle.std.specs.List.{slice_get}
use Rattle.sq_machfile.specs.declared.node.Node.{Node}

-- the node at the second index is a child of the one at the first
pub record IsChild (nodes : List Node) (parent child : ℕ) : Type 0 where
  pub node : Node
  pub there : slice_get nodes parent ≡ Some node
  pub from : node.first_child ≤ child
  pub to : child < node.first_child + node.children

-- how many nodes stand at levels above this one
abbrev pub above : List Node → ℕ → ℕ
above nodes level = length (filter (λ n. nat_lt n.level level) nodes)
