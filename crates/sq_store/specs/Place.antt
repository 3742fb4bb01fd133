-- What `place` answers.
use Rattle.std.specs.Prelude.{◌≡◌, ℕ, zero, suc, ◌-◌, ◌<◌, ◌≤◌, ◌||◌, ◌&&◌, ◌==◌, nat_lt, List, length, get_or, Option}
use Rattle.std.specs.Prelude.{Some, None, if◌then◌else◌}
use Rattle.sq_ir.specs.Plans.{node_at}
use Rattle.sq_ir.specs.declared.plan.Draft.{Draft}
use Rattle.sq_ir.specs.declared.plan.PlanNode.{PlanNode}
use Rattle.sq_ir.specs.declared.plan.Plan.{Plan}
use Rattle.sq_store.specs.declared.fitting.Lack.{Lack}
use Rattle.sq_store.specs.declared.fitting.StoreFault.{StoreFault}
use Rattle.sq_store.specs.declared.fitting.StoreFault.TheVariants.{Capacity, NoMemory}
use Rattle.sq_nests.specs.Stacks.{capped}
use Rattle.sq_nests.specs.Drafts.{nested_sum, HasSpace, KeepsRoom}
use Rattle.sq_store.specs.Walk.{offsets_of}

-- ---- which node counts

abbrev pub excess : Lack → ℕ
excess lack = lack.need - lack.capacity

-- of two that of the lesser level, there the greater one, and of equal ones the old one
abbrev pub keep : Option Lack → Lack → Option Lack
keep None new = Some new
keep (Some old) new = if nat_lt new.level old.level
    || (new.level == old.level && nat_lt (excess old) (excess new)) then Some new else Some old

abbrev pub or_worse : Option Lack → Option Lack → Option Lack
or_worse old None = old
or_worse old (Some new) = keep old new

-- what a node of this number lacks, if it needs so much
abbrev pub lack_of : PlanNode → (need node : ℕ) → Option Lack
lack_of n need node = if nat_lt n.capacity need then Some
    (record { node = node; level = n.level; need = need; capacity = n.capacity }) else None

abbrev pub lack_at : List PlanNode → (sums : List ℕ) → ℕ → Option Lack
lack_at nodes sums i = lack_of (node_at nodes i) (get_or sums i 0) i

-- of the first so many nodes
abbrev pub worst_of : List PlanNode → (sums : List ℕ) → ℕ → Option Lack
worst_of nodes sums zero = None
worst_of nodes sums (suc k) = or_worse (worst_of nodes sums k) (lack_at nodes sums k)

-- ---- answers

-- what the node needs; 2^64 - 1 stands for all that passes it
abbrev pub need_at : Draft → List PlanNode → ℕ → ℕ
need_at d nodes node = capped (nested_sum d nodes node)

abbrev pub capacity_at : List PlanNode → ℕ → ℕ
capacity_at nodes node = (node_at nodes node).capacity

abbrev pub level_at : List PlanNode → ℕ → ℕ
level_at nodes node = (node_at nodes node).level

abbrev pub excess_at : Draft → List PlanNode → ℕ → ℕ
excess_at d nodes node = need_at d nodes node - capacity_at nodes node

-- a node that needs more than it has
pub record IsShort (d : Draft) (nodes : List PlanNode) (node : ℕ) : Type 0 where
  pub there : node < length nodes
  pub short : capacity_at nodes node < need_at d nodes node

-- It is short, in the first level that has a short node, and of that level's nodes that with the greatest excess, the
-- first of these.
pub record IsOver (d : Draft) (nodes : List PlanNode) (node need capacity : ℕ) : Type 0 where
  pub over : IsShort d nodes node
  pub need_is : need ≡ need_at d nodes node
  pub capacity_is : capacity ≡ capacity_at nodes node
  pub level : (m : ℕ) → IsShort d nodes m → level_at nodes node ≤ level_at nodes m
  pub greatest : (m : ℕ) → IsShort d nodes m → level_at nodes m ≡ level_at nodes node → excess_at d nodes m
      ≤ excess_at d nodes node
  pub first : (m : ℕ) → IsShort d nodes m → level_at nodes m ≡ level_at nodes node → m < node → excess_at d nodes m
      < excess_at d nodes node

abbrev pub IsRefusal : Draft → List PlanNode → StoreFault → Type 0
IsRefusal d nodes (Capacity node need capacity) = IsOver d nodes node need capacity
IsRefusal d nodes NoMemory = Unit {0}

-- the offsets, where there is space
pub record IsRoomFor (d : Draft) (nodes : List PlanNode) (offsets : List ℕ) : Type 0 where
  pub space : HasSpace d nodes
  pub offsets_ : offsets ≡ offsets_of d

-- The plan has the draft, the nodes and the offsets by stacking; no node is short; live buffers have room.
pub record IsPlaced (d : Draft) (nodes : List PlanNode) (p : Plan) : Type 0 where
  pub space : HasSpace d nodes
  pub is : p ≡ record { draft = d; offsets = offsets_of d; nodes = nodes }
  pub room : KeepsRoom p
