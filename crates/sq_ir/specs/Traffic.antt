-- How many events there are of each kind, and what they carry over the edges between two levels of a machine.
use Rattle.std.specs.Prelude.{ℕ, suc, ◌+◌, ◌*◌, ◌-◌, ◌^◌, min, max, Bool, ◌&&◌, nat_eq, if◌then◌else◌, List, [], ◌∷◌}
use Rattle.sq_num.specs.Elements.{width}
use Rattle.sq_ir.specs.Events.{Event, Copy, Fill, Accumulate, Leaf}
use Rattle.sq_ir.specs.Plans.{node_at}
use Rattle.sq_ir.specs.declared.plan.PlanNode.{PlanNode}
use Rattle.sq_ir.specs.declared.traffic.EventCounts.{EventCounts}
use Rattle.sq_ir.specs.declared.traffic.Carried.{Carried}

-- a count or a sum stops at the greatest number of 64 bits
abbrev pub more_by : (sum more : ℕ) → ℕ
more_by n k = min (n + k) (2 ^ 64 - 1)

-- ---- events by kind

abbrev pub no_counts : EventCounts
no_counts = record { copies = 0; fills = 0; accumulations = 0; leaves = 0 }

-- with one event more
abbrev pub counted : Event → EventCounts → EventCounts
counted (Copy from to bytes) c =
    record { copies = more_by c.copies 1; fills = c.fills; accumulations = c.accumulations; leaves = c.leaves }
counted (Fill to e count v) c =
    record { copies = c.copies; fills = more_by c.fills 1; accumulations = c.accumulations; leaves = c.leaves }
counted (Accumulate op e from to count) c =
    record { copies = c.copies; fills = c.fills; accumulations = more_by c.accumulations 1; leaves = c.leaves }
counted (Leaf node code vs path) c =
    record { copies = c.copies; fills = c.fills; accumulations = c.accumulations; leaves = more_by c.leaves 1 }

abbrev pub counted_all : List Event → EventCounts → EventCounts
counted_all [] c = c
counted_all (e ∷ es) c = counted_all es (counted e c)

-- ---- bytes over edges

abbrev pub nothing_carried : Carried
nothing_carried = record { down = 0; up = 0 }

-- edge 0 lies between the levels 0 and 1, edge 1 between 1 and 2
abbrev pub is_edge : (upper lower edge : ℕ) → Bool
is_edge upper lower edge = nat_eq upper edge && nat_eq lower (suc edge)

-- an edge with these bytes more, where a row goes from one level to another
abbrev pub with_copy : (from to bytes : ℕ) → (edge : ℕ) → Carried → Carried
with_copy from to bytes edge c =
    if is_edge from to edge
    then record { down = more_by c.down bytes; up = c.up }
    else (if is_edge to from edge then record { down = c.down; up = more_by c.up bytes } else c)

abbrev pub with_accumulation : (from to bytes : ℕ) → (edge : ℕ) → Carried → Carried
with_accumulation from to bytes edge c =
    if is_edge to from edge then record { down = c.down; up = more_by c.up bytes } else c

-- An event counts for an edge just where its two nodes stand at the edge's two levels.
abbrev pub with_event : (level : ℕ → ℕ) → Event → (edge : ℕ) → Carried → Carried
with_event level (Copy from to bytes) edge c = with_copy (level from.node) (level to.node) bytes edge c
with_event level (Fill to e count v) edge c = c
with_event level (Accumulate op e from to count) edge c =
    with_accumulation (level from.node) (level to.node) (count * width e) edge c
with_event level (Leaf node code vs path) edge c = c

-- each edge, from this number on
abbrev pub each_edge : (ℕ → Carried → Carried) → (edge : ℕ) → List Carried → List Carried
each_edge f edge [] = []
each_edge f edge (c ∷ cs) = f edge c ∷ each_edge f (suc edge) cs

-- what the edges carried, with one event more
abbrev pub carried : (level : ℕ → ℕ) → Event → List Carried → List Carried
carried level e edges = each_edge (with_event level e) 0 edges

abbrev pub carried_all : (level : ℕ → ℕ) → List Event → List Carried → List Carried
carried_all level [] edges = edges
carried_all level (e ∷ es) edges = carried_all level es (carried level e edges)

-- ---- what one event adds

-- the bytes that an event carries down over an edge: those of a copy from its upper level to its lower one
abbrev pub down_by : (level : ℕ → ℕ) → (edge : ℕ) → Event → ℕ
down_by level edge (Copy from to bytes) = if is_edge (level from.node) (level to.node) edge then bytes else 0
down_by level edge (Fill to e count v) = 0
down_by level edge (Accumulate op e from to count) = 0
down_by level edge (Leaf node code vs path) = 0

-- and up: those of a copy or an accumulation from its lower level to its upper one
abbrev pub up_by : (level : ℕ → ℕ) → (edge : ℕ) → Event → ℕ
up_by level edge (Copy from to bytes) = if is_edge (level to.node) (level from.node) edge then bytes else 0
up_by level edge (Fill to e count v) = 0
up_by level edge (Accumulate op e from to count) =
    if is_edge (level to.node) (level from.node) edge then count * width e else 0
up_by level edge (Leaf node code vs path) = 0

-- one event of its kind
abbrev pub copies_by : Event → ℕ
copies_by (Copy from to bytes) = 1
copies_by (Fill to e count v) = 0
copies_by (Accumulate op e from to count) = 0
copies_by (Leaf node code vs path) = 0

abbrev pub fills_by : Event → ℕ
fills_by (Copy from to bytes) = 0
fills_by (Fill to e count v) = 1
fills_by (Accumulate op e from to count) = 0
fills_by (Leaf node code vs path) = 0

abbrev pub accumulations_by : Event → ℕ
accumulations_by (Copy from to bytes) = 0
accumulations_by (Fill to e count v) = 0
accumulations_by (Accumulate op e from to count) = 1
accumulations_by (Leaf node code vs path) = 0

abbrev pub leaves_by : Event → ℕ
leaves_by (Copy from to bytes) = 0
leaves_by (Fill to e count v) = 0
leaves_by (Accumulate op e from to count) = 0
leaves_by (Leaf node code vs path) = 1

-- ---- levels

abbrev pub level_in : List PlanNode → (node : ℕ) → ℕ
level_in nodes n = (node_at nodes n).level

-- the greatest level of a node: how many edges there are
abbrev pub deepest : List PlanNode → ℕ
deepest [] = 0
deepest (n ∷ ns) = max n.level (deepest ns)
