-- Rows of events: whether they lie in their buffers and nodes, and apart from one another.
use Rattle.std.specs.Prelude.{ℕ, ◌+◌, Bool, not, ◌&&◌, ◌||◌, nat_eq, nat_le, List}
use Rattle.sq_ir.specs.Plans.{node_at}
use Rattle.sq_plantext.specs.declared.text.SlotText.{SlotText}
use Rattle.sq_plantext.specs.declared.text.PlanText.{PlanText}
use Rattle.sq_planfile.specs.Files.{nodes_of}
use Rattle.sq_planevents.specs.Lines.{room_of}
use Rattle.sq_planevents.specs.Standing.{node_in, has}

-- where a slot's byte is in its node, and which node that is
abbrev pub place_of : PlanText → SlotText → ℕ
place_of x slot = (room_of x slot.buffer).offset + slot.at

abbrev pub node_of : PlanText → (nodes : List ℕ) → SlotText → ℕ
node_of x nodes slot = node_in nodes (room_of x slot.buffer).level

abbrev pub capacity_of : PlanText → (node : ℕ) → ℕ
capacity_of x node = (node_at (nodes_of x) node).capacity

-- so many bytes from a slot on lie in its buffer, which is in scope, and in its node
abbrev pub is_row : PlanText → (nodes scopes : List ℕ) → SlotText → (bytes : ℕ) → Bool
is_row x nodes scopes slot bytes =
    has scopes slot.buffer && nat_le (slot.at + bytes) (room_of x slot.buffer).size && nat_le (place_of x slot + bytes) (capacity_of x (node_of x nodes slot))

abbrev pub are_apart : PlanText → (nodes : List ℕ) → (from to : SlotText) → (bytes : ℕ) → Bool
are_apart x nodes from to bytes =
    not (nat_eq (node_of x nodes from) (node_of x nodes to)) || nat_le (place_of x from + bytes) (place_of x to) || nat_le (place_of x to + bytes) (place_of x from)

abbrev pub is_move : PlanText → (nodes scopes : List ℕ) → (from to : SlotText) → (bytes : ℕ) → Bool
is_move x nodes scopes from to bytes =
    is_row x nodes scopes from bytes && is_row x nodes scopes to bytes && are_apart x nodes from to bytes
