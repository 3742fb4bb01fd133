-- At which nodes forms are marked for the choice of loops: just at those where they run.
--
-- A root has two children, of 32 and 16 bytes. Form 0 runs at the root, and the only call of form 1 is that of the
-- first iteration, at the first child: so form 1 is marked there, its room is 32 bytes, and it isn't marked at the
-- second child, although that is of its level.
use Rattle.std.specs.Prelude.{◌≡◌, ◌⊎◌, ℕ, suc, ◌<◌, ◌≤◌, true, [], get_or, slice_get, Some}
use Rattle.sq_machfile.specs.Machines.{WithinLimits}
use Rattle.sq_machfile.specs.declared.node.Node.{Node}
use Rattle.sq_forms.specs.declared.form.Form.{Form}
use Rattle.sq_spec.specs.declared.resolved.Resolved.{Resolved}
use Rattle.sq_spec_laws.specs.Needs.{Reached, IsCall, RunsAt}
use Rattle.sq_ir.specs.StateLaws.{AreOne}
use Rattle.sq_plan_good.specs.DraftLaws.Choosing.{Walked}
use Rattle.sq_pass_laws.specs.Pipe.Runs.{is_marked, marks_of, least_room, most_children, no_bound}

-- ---- forms are called, and so they run

-- the k-th form runs at the node
abbrev pub Runs : Resolved → (k node : ℕ) → Type 0
Runs r k node = RunsAt r.typed.now.tasks r.mapping.now.instances r.machine.now.nodes r.forms k node

-- a call of a form before it has the k-th form for its callee, at the caller's level or one lower
pub record IsCalled (r : Resolved) (k : ℕ) (to : Form) : Type 0 where
  pub caller : ℕ
  pub earlier : caller < k
  pub from : Form
  pub reached : Reached
  pub call : IsCall r.typed.now.tasks r.mapping.now.instances r.forms caller k from to reached
  pub near : (to.level ≡ from.level) ⊎ (to.level ≡ suc from.level)

-- Each form but the entry is called.
abbrev pub FormsAreCalled : Type 0
FormsAreCalled = (r : Resolved) → Walked r → (k : ℕ) (f : Form) → slice_get r.forms k ≡ Some f → 0 < k → IsCalled r k f

-- So each runs at some node.
abbrev pub FormsRunSomewhere : Type 0
FormsRunSomewhere = (r : Resolved) → Walked r → WithinLimits r.machine.now → (k : ℕ) (f : Form)
    → slice_get r.forms k ≡ Some f → (node : ℕ) × Runs r k node

-- ---- marks

-- A form is marked at a node exactly where it runs there.
abbrev pub MarksAreRuns : Type 0
MarksAreRuns = (r : Resolved) → Walked r → WithinLimits r.machine.now → (k node : ℕ)
    → AreOne (is_marked (get_or (marks_of r) k []) node ≡ true) (Runs r k node)

-- ---- what the nodes of a form have

-- the form runs at such a node
pub record RunsWhere (r : Resolved) (k : ℕ) (P : Node → Type 0) : Type 0 where
  pub node : ℕ
  pub runs : Runs r k node
  pub own : Node
  pub own_there : slice_get r.machine.now.nodes node ≡ Some own
  pub holds : P own

-- the least capacity of the nodes at which the k-th form runs
pub record IsLeastRoom (r : Resolved) (k room : ℕ) : Type 0 where
  pub least : (node : ℕ) (own : Node) → Runs r k node → slice_get r.machine.now.nodes node ≡ Some own
      → room ≤ own.capacity
  pub is : RunsWhere r k (λ own. own.capacity ≡ room)

-- the greatest number of their children
pub record IsMostChildren (r : Resolved) (k children : ℕ) : Type 0 where
  pub most : (node : ℕ) (own : Node) → Runs r k node → slice_get r.machine.now.nodes node ≡ Some own
      → own.children ≤ children
  pub is : RunsWhere r k (λ own. own.children ≡ children)

-- The room of a form is the least capacity of the nodes at which it runs.
abbrev pub RoomIsLeast : Type 0
RoomIsLeast = (r : Resolved) → Walked r → WithinLimits r.machine.now → (k : ℕ) (f : Form) → slice_get r.forms k ≡ Some f
    → IsLeastRoom r k (least_room (get_or (marks_of r) k []) 0 r.machine.now.nodes no_bound)

-- A loop is asked for more iterations than any node at which its form runs has children.
abbrev pub ChildrenAreMost : Type 0
ChildrenAreMost = (r : Resolved) → Walked r → WithinLimits r.machine.now → (k : ℕ) (f : Form)
    → slice_get r.forms k ≡ Some f
    → IsMostChildren r k (most_children (get_or (marks_of r) k []) 0 r.machine.now.nodes 0)
