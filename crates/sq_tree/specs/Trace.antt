-- The trace of a run, a line for each event.
use Rattle.std.specs.Prelude.{ℕ, suc, ◌*◌, nat_eq, if◌then◌else◌, List, [], ◌∷◌, ◌++◌, codes, decimal, take}
use Rattle.std.specs.List.{flat_map, slice_get}
use Rattle.std.specs.Option.{option_map_or}
use Rattle.sq_num.specs.declared.RedOp.{RedOp}
use Rattle.sq_num.specs.Elements.{width}
use Rattle.sq_leaf.specs.Ast.Canonical.{reduction_text}
use Rattle.sq_ir.specs.Events.{Spot, Event, Copy, Fill, Accumulate, Leaf}
use Rattle.sq_ir.specs.Traffic.{level_in}
use Rattle.sq_ir.specs.declared.plan.PlanNode.{PlanNode}
use Rattle.sq_ir.specs.declared.plan.Plan.{Plan}

-- how many of these nodes stand at the level
abbrev pub count_at : (level : ℕ) → List PlanNode → ℕ
count_at l [] = 0
count_at l (n ∷ ns) = if nat_eq n.level l then suc (count_at l ns) else count_at l ns

-- the number of a node among those of its level, from the left
abbrev pub index_in : List PlanNode → (node : ℕ) → ℕ
index_in nodes n = count_at (level_in nodes n) (take n nodes)

-- of the second node of level 1: `1.1`
abbrev pub node_text : List PlanNode → (node : ℕ) → List ℕ
node_text nodes n = decimal (level_in nodes n) ++ (codes "." ++ decimal (index_in nodes n))

abbrev pub spot_text : List PlanNode → Spot → List ℕ
spot_text nodes s = node_text nodes s.node ++ (codes ":" ++ decimal s.at)

-- the name of the instance of a leaf
abbrev pub instance_of : Plan → (code : ℕ) → List ℕ
instance_of p code = option_map_or (λ l. l.instance) (slice_get p.draft.leaves code) []

-- `1.1:16 0.0:48 16`
abbrev pub route_text : List PlanNode → (from to : Spot) → (bytes : ℕ) → List ℕ
route_text nodes from to bytes = spot_text nodes from ++ codes " " ++ spot_text nodes to ++ codes " " ++ decimal bytes

abbrev pub copy_line : (route : List ℕ) → List ℕ
copy_line route = codes "copy " ++ route ++ codes "\n"

abbrev pub fill_line : List PlanNode → (to : Spot) → (bytes : ℕ) → List ℕ
fill_line nodes to bytes = codes "fill " ++ spot_text nodes to ++ codes " " ++ decimal bytes ++ codes "\n"

abbrev pub accumulate_line : RedOp → (route : List ℕ) → List ℕ
accumulate_line op route = codes "acc " ++ reduction_text op ++ codes " " ++ route ++ codes "\n"

abbrev pub leaf_line : Plan → (node code : ℕ) → List ℕ
leaf_line p node code = codes "leaf " ++ node_text p.nodes node ++ codes " " ++ instance_of p code ++ codes "\n"

-- the line of an event: `copy 0.0:32 1.0:0 16`, `fill 1.0:16 16`, `acc + 1.0:0 0.0:8 4`, `leaf 1.0 low`
abbrev pub event_line : Plan → Event → List ℕ
event_line p (Copy from to bytes) = copy_line (route_text p.nodes from to bytes)
event_line p (Fill to elem count value) = fill_line p.nodes to (count * width elem)
event_line p (Accumulate op elem from to count) =
    accumulate_line op (route_text p.nodes from to (count * width elem))
event_line p (Leaf node code views path) = leaf_line p node code

abbrev pub trace_text : Plan → List Event → List ℕ
trace_text p events = flat_map (event_line p) events
