-- The leaf events of a plan that is good for a program: which calls of the source they are, and what they run.
use Rattle.std.specs.Prelude.{◌≡◌, ℕ, List, Some, slice_get}
use Rattle.sq_text.specs.Names.{Bytes}
use Rattle.sq_form_laws.specs.Mappings.declared.mapping.Instance.{Instance}
use Rattle.sq_spec.specs.declared.body.Body.TheVariants as body
use Rattle.sq_spec.specs.declared.resolved.Resolved.{Resolved}
use Rattle.sq_ir.specs.Leaf.Leaf.{Leaf as LeafSource}
use Rattle.sq_ir.specs.Events.{Event, Copy, Fill, Accumulate, Leaf as LeafEvent}
use Rattle.sq_ir.specs.Unordered.{AllEvents}
use Rattle.sq_ir.specs.Plans.{node_at, tree_of}
use Rattle.sq_ir.specs.declared.plan.Leaf.{Leaf}
use Rattle.sq_ir.specs.declared.plan.Plan.{Plan}
use Rattle.sq_ir.specs.declared.plan.PlanNode.{PlanNode}
use Rattle.sq_tree.specs.Trace.{instance_of}
use Rattle.sq_cells.specs.Alike.{Weight, leaf_count}
use Rattle.sq_plan_good.specs.Term.Terms.{body_in, homes_in}
use Rattle.sq_plan_good.specs.Homes.Chosen.declared.choice.Choice.{Choice}
use Rattle.sq_plan_good.specs.Homes.Chosen.Forms.{bodies_of, instance_at, name_by}
use Rattle.sq_plan_good.specs.Homes.Drafts.{homes_of}
use Rattle.sq_plan_good.specs.DraftLaws.Given.{level_at}
use Rattle.sq_plan_good.specs.Good.{IsGoodFor}
use Rattle.sq_event_laws.specs.SourceCalls.{program_calls}

-- the number of a form's code
abbrev pub code_of : Resolved → List Choice → (form : ℕ) → ℕ
code_of r choices form = (homes_in (homes_of r choices) form).code

-- ---- which calls they are

-- The plan has one leaf event for each leaf call of the source and no other, with its path and the number of its form's
-- code: what its events weigh in all is what the calls weigh, whatever each weighs.
abbrev pub LeafEventsAreLeafCalls : Type 0
LeafEventsAreLeafCalls = (r : Resolved) (choices : List Choice) (nodes : List PlanNode) (p : Plan)
    → IsGoodFor r choices nodes p → (f : Weight)
    → leaf_count f (tree_of p) ≡ program_calls (λ form path. f (code_of r choices form) path) r

-- So a trace names each instance as often as the source calls its leaf, with the paths of these calls.
abbrev pub NamesAreCounted : Type 0
NamesAreCounted = (r : Resolved) (choices : List Choice) (nodes : List PlanNode) (p : Plan)
    → IsGoodFor r choices nodes p → (f : (name : Bytes) → (path : List ℕ) → ℕ)
    → leaf_count (λ code path. f (instance_of p code) path) (tree_of p)
    ≡ program_calls (λ form path. f (name_by (instance_at r form)) path) r

-- ---- what they run

-- the leaf of a form: the code that its body is, from the variant of its instance's task and kind
pub record IsLeafOf (r : Resolved) (form : ℕ) (leaf : Leaf) : Type 0 where
  pub body_is : (body_in (bodies_of r) form).body ≡ body.Leaf leaf.code
  pub instance : Instance
  pub instance_is : instance_at r form ≡ Some instance
  pub name : leaf.instance ≡ instance.name
  pub task : leaf.code.variant.task ≡ instance.task
  pub kind : leaf.code.variant.kind ≡ instance.kind
  -- one of the program
  pub number : ℕ
  pub variant_is : slice_get r.typed.now.tasks number ≡ Some leaf.code.variant

-- a leaf event at this node, with this number, runs the leaf of a form of the node's level
pub record IsRun (r : Resolved) (choices : List Choice) (p : Plan) (node code : ℕ) : Type 0 where
  pub form : ℕ
  pub leaf : Leaf
  pub code_is : code_of r choices form ≡ code
  pub there : slice_get p.draft.leaves code ≡ Some leaf
  pub of : IsLeafOf r form leaf
  pub level : (node_at p.nodes node).level ≡ level_at r form

abbrev pub RunsItsForm : Resolved → List Choice → Plan → Event → Type 0
RunsItsForm r choices p (Copy from to bytes) = Unit {0}
RunsItsForm r choices p (Fill to elem count v) = Unit {0}
RunsItsForm r choices p (Accumulate op elem from to count) = Unit {0}
RunsItsForm r choices p (LeafEvent node code views path) = IsRun r choices p node code

abbrev pub LeafEventsRunTheirForms : Type 0
LeafEventsRunTheirForms = (r : Resolved) (choices : List Choice) (nodes : List PlanNode) (p : Plan)
    → IsGoodFor r choices nodes p → AllEvents (RunsItsForm r choices p) (tree_of p)

-- Forms that are leaves have numbers of their own.
abbrev pub CodesAreApart : Type 0
CodesAreApart = (r : Resolved) (choices : List Choice) (form other : ℕ) (code its : LeafSource)
    → (body_in (bodies_of r) form).body ≡ body.Leaf code → (body_in (bodies_of r) other).body ≡ body.Leaf its
    → code_of r choices form ≡ code_of r choices other → form ≡ other
