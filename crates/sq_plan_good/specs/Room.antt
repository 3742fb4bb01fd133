-- When a node has room for what stands there, whichever loops overlap their transfers.
use Rattle.std.specs.Prelude.{◌≡◌, ℕ, ◌+◌, ◌≤◌, ◌<◌, true, false, List, [], ◌∷◌, ◌++◌, map, slice_get}
use Rattle.std.specs.Prelude.{◌==◌, length, get_or, Option, Some, None, if◌then◌else◌}
use Rattle.sq_machfile.specs.Machines.{WithinLimits}
use Rattle.sq_forms.specs.declared.form.Caller.{Caller}
use Rattle.sq_forms.specs.declared.form.Form.{Form}
use Rattle.sq_ir.specs.Written.{Setting}
use Rattle.sq_ir.specs.declared.plan.Draft.{Draft}
use Rattle.sq_ir.specs.declared.plan.PlanNode.{PlanNode}
use Rattle.sq_spec.specs.declared.body.FormBody.{FormBody}
use Rattle.sq_spec.specs.declared.statement.LoopKind.{LoopKind}
use Rattle.sq_spec.specs.declared.statement.LoopKind.TheVariants as loop_kind
use Rattle.sq_spec.specs.declared.statement.CallInstance.{CallInstance}
use Rattle.sq_spec.specs.declared.resolved.Resolved.{Resolved}
use Rattle.sq_spec_laws.specs.Needs.{RunsAt}
use Rattle.sq_nests.specs.Stacks.{total}
use Rattle.sq_nests.specs.Drafts.{nested_sum}
use Rattle.sq_placed.specs.Pipes.{CallLoop, call_loops_of}
use Rattle.sq_placed.specs.Tables.{locals_of, row_form}
use Rattle.sq_placed.specs.Trees.{local_buffers}
use Rattle.sq_term.specs.Terms.{body_in, homes_in}
use Rattle.sq_draft_laws.specs.Homes.Chosen.declared.choice.Choice.{Choice}
use Rattle.sq_draft_laws.specs.Homes.Chosen.Arrays.{standing, array_size}
use Rattle.sq_draft_laws.specs.Homes.Chosen.Forms.{bodies_of, choice_in}
use Rattle.sq_draft_laws.specs.Homes.Drafts.{IsDraftOf, homes_of, entry_of}
use Rattle.sq_draft_laws.specs.Homes.Begun.{Begun, calls_of}
use Rattle.sq_draft_laws.specs.Choosing.{Walked, MayBeChosen, setting_of}
use Rattle.sq_draft_laws.specs.Memories.{plan_node}
use Rattle.sq_plan_good.specs.Sums.{brought}
use Rattle.sq_plan_good.specs.Loops.{BegunLoop, Lanes, starts_of}

-- on the machine's nodes
abbrev pub machine_setting : Resolved → List Choice → Setting
machine_setting r choices = setting_of r choices (map plan_node r.machine.now.nodes) (λ b. 0)

-- Up to where each form's buffers stand at its nodes, at most: those of a call, both of each twin, behind its caller's
-- where that is at the same level.
pub record AreTops (r : Resolved) (choices : List Choice) (top : ℕ → ℕ) : Type 0 where
  pub entry : total (machine_setting r choices).size
      (entry_of r choices ++ local_buffers (locals_of (body_in (bodies_of r) 0) (homes_in (homes_of r choices) 0)))
      ≤ top 0
  pub calls : (k i : ℕ) (d : Begun) → slice_get (calls_of (body_in (bodies_of r) k).body) i ≡ Some d
      → (if d.lower then 0 else top k)
      + total (machine_setting r choices).size (brought (body_in (bodies_of r)) (homes_in (homes_of r choices)) d.row)
      ≤ top d.row.form

-- a loop of the k-th form that overlaps its transfers
abbrev pub IsLoop : Resolved → List Choice → (k : ℕ) → BegunLoop → Type 0
IsLoop r choices k l = (i : ℕ)
    × (slice_get (starts_of (homes_in (homes_of r choices)) (body_in (bodies_of r) k).body) i ≡ Some (Lanes l))

-- Such a loop has iterations, and at least as many as there are children where it is spread, wherever its form runs.
pub record AreBusy (r : Resolved) (choices : List Choice) : Type 0 where
  pub spread : (k node : ℕ) (l : BegunLoop)
      → RunsAt r.typed.now.tasks r.mapping.now.instances r.machine.now.nodes r.forms k node → IsLoop r choices k l
      → l.spread ≡ true → (machine_setting r choices).children node ≤ l.count
  pub alone : (k node : ℕ) (l : BegunLoop)
      → RunsAt r.typed.now.tasks r.mapping.now.instances r.machine.now.nodes r.forms k node → IsLoop r choices k l
      → l.spread ≡ false → 0 < l.count

-- so many iterations are enough for a loop of this kind at a node with so many children
abbrev pub IsEnough : LoopKind → (children count : ℕ) → Type 0
IsEnough loop_kind.Sequential children count = 0 < count
IsEnough loop_kind.Parallel children count = children ≤ count
IsEnough (loop_kind.Reduction r) children count = Unit {0}

-- each time that the loop is begun
pub record HasEnough (children : ℕ) (l : CallLoop) : Type 0 where
  pub some : 0 < length l.counts
  pub each : (i : ℕ) → i < length l.counts → IsEnough l.kind children (get_or l.counts i 0)

-- wherever the loop's form runs
abbrev pub LoopsHaveEnough : Resolved → List Choice → Type 0
LoopsHaveEnough r choices = (k node i : ℕ) (l : CallLoop)
    → RunsAt r.typed.now.tasks r.mapping.now.instances r.machine.now.nodes r.forms k node
    → slice_get (call_loops_of (body_in (bodies_of r) k).body) i ≡ Some l
    → (homes_in (homes_of r choices) (row_form (slice_get l.rows 0))).overlaps ≡ true
    → HasEnough ((machine_setting r choices).children node) l

-- Then loops that overlap their transfers have iterations for their nodes.
abbrev pub LoopsAreBusy : Type 0
LoopsAreBusy = (r : Resolved) → Walked r → (choices : List Choice) → MayBeChosen r choices → LoopsHaveEnough r choices
    → AreBusy r choices

-- A node has room for what stands there where it has room for each form that runs at it.
abbrev pub SumsFit : Type 0
SumsFit = (r : Resolved) → Walked r → WithinLimits r.machine.now → (choices : List Choice) → MayBeChosen r choices
    → (d : Draft) → IsDraftOf r choices d → (top : ℕ → ℕ) → AreTops r choices top → AreBusy r choices
    → (node most : ℕ)
    → ((k : ℕ) → RunsAt r.typed.now.tasks r.mapping.now.instances r.machine.now.nodes r.forms k node → top k ≤ most)
    → nested_sum d (map plan_node r.machine.now.nodes) node ≤ most

-- ---- what calls bring

-- the bytes of these arrays of a form
abbrev pub sizes_of : FormBody → List ℕ → ℕ
sizes_of b [] = 0
sizes_of b (i ∷ is) = array_size b i + sizes_of b is

-- A call brings no more than all buffers of its form, whatever was chosen.
abbrev pub CallsBring : Type 0
CallsBring = (r : Resolved) (choices : List Choice) → MayBeChosen r choices → (nodes : List PlanNode) (offset : ℕ → ℕ)
    → (row : CallInstance) (b : FormBody) → slice_get (bodies_of r) row.form ≡ Some b
    → total (setting_of r choices nodes offset).size
    (brought (body_in (bodies_of r)) (homes_in (homes_of r choices)) row)
    ≤ sizes_of b (standing b (choice_in choices row.form))

-- ---- where forms end

abbrev pub level_top : (level top : ℕ) → Option Form → ℕ
level_top level top None = 0
level_top level top (Some f) = if f.level == level then top else 0

-- the end of a form's caller, if it is of this level
abbrev pub callers_top : List Form → (top : ℕ → ℕ) → (level : ℕ) → Option Caller → ℕ
callers_top forms top level None = 0
callers_top forms top level (Some c) = level_top level (top c.form) (slice_get forms c.form)

-- Each form's buffers end there or before, behind its caller's where that is at the same level.
abbrev pub FormsEnd : Resolved → List Choice → (top : ℕ → ℕ) → Type 0
FormsEnd r choices top = (k : ℕ) (f : Form) (b : FormBody) → slice_get r.forms k ≡ Some f
    → slice_get (bodies_of r) k ≡ Some b
    → callers_top r.forms top f.level f.caller + sizes_of b (standing b (choice_in choices k)) ≤ top k

-- Then so far its buffers stand at its nodes.
abbrev pub EndsAreTops : Type 0
EndsAreTops = (r : Resolved) → Walked r → (choices : List Choice) → MayBeChosen r choices → (top : ℕ → ℕ)
    → FormsEnd r choices top → AreTops r choices top
