-- Tests of the nodes of a plan file: whether they are those of a machine.
use Rattle.std.specs.Prelude.{ℕ, ◌-◌, ◌^◌, Bool, true, false, not, ◌&&◌, ◌==◌, nat_lt, nat_le, if◌then◌else◌, List, [], ◌∷◌, length, take, drop, Option, Some, None}
use Rattle.std.specs.List.{list_all}
use Rattle.sq_plantext.specs.declared.text.NodeLine.{NodeLine}

abbrev pub deeper : (level : ℕ) → NodeLine → ℕ
deeper level n = if nat_lt level n.level then n.level else level

-- the deepest level of these nodes, which is not above the given one
abbrev pub deepest : (level : ℕ) → List NodeLine → ℕ
deepest level [] = level
deepest level (n ∷ ns) = deepest (deeper level n) ns

-- a node of a machine whose last level is this one
abbrev pub is_node : (last : ℕ) → NodeLine → Bool
is_node last n = (nat_le n.capacity (2 ^ 30) && nat_le n.children 64) && (if n.level == last then n.children == 0 else not (n.children == 0))

-- one level deeper
abbrev pub is_below : NodeLine → NodeLine → Bool
is_below n child = nat_lt n.level child.level && (child.level - n.level == 1)

-- the first of the nodes that are left are the children of this one; what is behind them
abbrev pub past_children : NodeLine → (left : List NodeLine) → Option (List NodeLine)
past_children n left = if nat_lt (length left) n.children then None else
    (if list_all (is_below n) (take n.children left) then Some (drop n.children left) else None)

-- the first child is at this index, where there is one
abbrev pub begins_at : ℕ → NodeLine → Bool
begins_at index n = n.first_child == (if n.children == 0 then 0 else index)

abbrev pub is_nil : List NodeLine → Bool
is_nil [] = true
is_nil (n ∷ ns) = false

abbrev pub then_all : Option (List NodeLine) → (List NodeLine → Bool) → Bool
then_all None test = false
then_all (Some left) test = test left

-- Of so many nodes these are the parents in turn of those that are left, and of no others.
abbrev pub are_parents : (count : ℕ) → (left nodes : List NodeLine) → Bool
are_parents count left [] = is_nil left
are_parents count left (n ∷ ns) = begins_at (count - length left) n && then_all (past_children n left) (λ rest. are_parents count rest ns)

abbrev pub are_arranged : List NodeLine → Bool
are_arranged [] = false
are_arranged (root ∷ later) = (root.level == 0) && are_parents (length (root ∷ later)) later (root ∷ later)

-- so many bytes are no less than all capacities together
abbrev pub has_room : (left : ℕ) → List NodeLine → Bool
has_room left [] = true
has_room left (n ∷ ns) = if nat_lt left n.capacity then false else has_room (left - n.capacity) ns

abbrev pub are_nodes : (last : ℕ) → List NodeLine → Bool
are_nodes last ns = nat_le (length ns) 4096 && (nat_lt last 8 && (list_all (is_node last) ns && (are_arranged ns && has_room (2 ^ 31) ns)))
