-- Which nodes of the machine have fewer bytes than the program's forms need there, and which of them is told.
--
-- A root of 64 bytes at which forms end at 80 lacks, with an excess of 16. Its children a and b, of 8 bytes each, at
-- which forms end at 32 and at 40, lack too; but the root is told, as its level comes first. With a root of 80 bytes b
-- is told, since its excess is the greater one; and were they equal, a, since it stands first.
use Rattle.std.specs.Prelude.{◌≡◌, ℕ, ◌-◌, ◌<◌, ◌≤◌, Some, slice_get}
use Rattle.sq_machfile.specs.declared.node.Node.{Node}
use Rattle.sq_spec.specs.declared.resolved.Resolved.{Resolved}
use Rattle.sq_spec_laws.specs.Needs.{Needs}

-- the node needs so many bytes, by the forms that run at it
abbrev pub NodeNeeds : Resolved → (node n : ℕ) → Type 0
NodeNeeds r node n = Needs r.typed.now.tasks r.mapping.now.instances r.machine.now.nodes r.forms node n

-- a node of this level that needs more than it has
pub record Lacks (r : Resolved) (node need capacity level : ℕ) : Type 0 where
  pub its : Node
  pub there : slice_get r.machine.now.nodes node ≡ Some its
  pub needs : NodeNeeds r node need
  pub capacity_is : capacity ≡ its.capacity
  pub level_is : level ≡ its.level
  pub short : capacity < need

abbrev pub NoneLacks : Resolved → Type 0
NoneLacks r = (node need capacity level : ℕ) → Lacks r node need capacity level → ⊥

-- It lacks, in the first level that has a node that does, and of that level's nodes that with the greatest excess, the
-- first of these.
pub record IsFirstLack (r : Resolved) (node need capacity : ℕ) : Type 0 where
  pub level : ℕ
  pub lacks : Lacks r node need capacity level
  pub upmost : (m n c l : ℕ) → Lacks r m n c l → level ≤ l
  pub greatest : (m n c : ℕ) → Lacks r m n c level → n - c ≤ need - capacity
  pub first : (m n c : ℕ) → Lacks r m n c level → m < node → n - c < need - capacity

-- ---- what follows

-- only the program, the mapping, the machine and the forms matter
abbrev pub LacksAreOne : Type 0
LacksAreOne = (r s : Resolved) → r.typed.now ≡ s.typed.now → r.mapping.now ≡ s.mapping.now
    → r.machine.now ≡ s.machine.now → r.forms ≡ s.forms
    → (node need capacity level : ℕ) → Lacks r node need capacity level → Lacks s node need capacity level

abbrev pub FirstLacksAreOne : Type 0
FirstLacksAreOne = (r s : Resolved) → r.typed.now ≡ s.typed.now → r.mapping.now ≡ s.mapping.now
    → r.machine.now ≡ s.machine.now → r.forms ≡ s.forms
    → (node need capacity : ℕ) → IsFirstLack r node need capacity → IsFirstLack s node need capacity

-- and one node is told, with one need
abbrev pub FirstLackIsOne : Type 0
FirstLackIsOne = (r : Resolved) (node need capacity m n c : ℕ) → IsFirstLack r node need capacity
    → IsFirstLack r m n c → (node ≡ m) × (need ≡ n) × (capacity ≡ c)
