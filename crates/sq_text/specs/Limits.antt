-- The limits that more than one crate keeps to.
use Rattle.std.specs.Prelude.{ℕ, ◌^◌}

-- bytes of a data file or an order list
abbrev pub most_data : ℕ
most_data = 268435456

-- of a machine
abbrev pub most_levels : ℕ
most_levels = 8

-- of a machine
abbrev pub most_nodes : ℕ
most_nodes = 4096

-- of a node
abbrev pub most_children : ℕ
most_children = 64

-- of a node, in bytes
abbrev pub most_capacity : ℕ
most_capacity = 2 ^ 30

-- of all nodes together
abbrev pub most_bytes : ℕ
most_bytes = 2 ^ 31
