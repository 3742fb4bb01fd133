-- What the reader counts, in numbers that end. No public clause speaks of it.
use Rattle.std.specs.Prelude.{ℕ, ◌-◌, ◌^◌, min, is_some, ◌≡◌, List, ◌++◌, ◌≤◌, Some}
use Rattle.std.specs.List.{slice_get}
use Rattle.sq_machfile.specs.declared.text.Below.{Below}
use Rattle.sq_text.specs.Names.{Bytes, item_of}
use Rattle.sq_machfile.specs.declared.even.Tally.{Tally}
use Rattle.sq_machfile.specs.declared.uneven.NodeTally.{NodeTally}
use Rattle.sq_machfile.specs.declared.node.Node.{Node}
use Rattle.sq_machfile.specs.declared.tree.Tree.{Tree}
use Rattle.sq_machfile.specs.Nodes.{linked}
use Rattle.sq_text.specs.Limits.{most_children}
use Rattle.sq_machfile.specs.Walk.{Count, NodeCount, NameSet}

-- the reader's numbers end here
abbrev pub capped : ℕ → ℕ
capped n = min n (2 ^ 64 - 1)

-- the names in a table
abbrev pub names_in : List (Bytes × ℕ) → NameSet
names_in table name = is_some (item_of table name)

abbrev pub count_of : Tally → Count
count_of tally = record { names = names_in tally.names; width = tally.width; nodes = tally.nodes; bytes = tally.bytes }

abbrev pub node_count_of : NodeTally → NodeCount
node_count_of tally = record { names = names_in tally.names; bytes = tally.bytes }

-- These nodes are put at the end, whatever comes later.
abbrev pub Adds : Tree → Tree → List Node → Type 0
Adds old new part = (later : List Node) → new.nodes ++ linked new.next later ≡ old.nodes ++ linked old.next (part ++ later)

-- numbers of children that the reader's numbers hold
abbrev pub FewChildren : List Below → Type 0
FewChildren below = (i : ℕ) (b : Below) → slice_get below i ≡ Some b → b.children.value ≤ most_children
