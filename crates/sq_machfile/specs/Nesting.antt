-- How many nodes stand in each node of a list in the order of the text.
use Rattle.std.specs.Prelude.{ℕ, suc, ◌+◌, ◌==◌, nat_lt, if◌then◌else◌, List, [], ◌∷◌}
use Rattle.sq_machfile.specs.declared.text.NodeText.{NodeText}
use Rattle.sq_machfile.specs.declared.nested.Nested.{Nested}

-- how many nodes there are of a depth, where one stands before as many others
abbrev pub siblings_behind : ℕ → ℕ → ℕ → ℕ
siblings_behind before depth others = if nat_lt before depth then 0 else (if before == depth then 1 else 0) + others

-- how many nodes of this depth there are up to the first that is less deep
abbrev pub siblings : ℕ → List NodeText → ℕ
siblings depth [] = 0
siblings depth (n ∷ later) = siblings_behind n.depth depth (siblings depth later)

abbrev pub nested_node : NodeText → ℕ → Nested
nested_node n children = record { depth = n.depth; name = n.name; capacity = n.capacity; children = children }

-- the nodes with the numbers of their children: of the nodes in them that are one deeper
abbrev pub nested : List NodeText → List Nested
nested [] = []
nested (n ∷ later) = nested_node n (siblings (suc n.depth) later) ∷ nested later
