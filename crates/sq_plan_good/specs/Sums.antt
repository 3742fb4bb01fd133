-- What a node needs for a form, by the tables: the greatest sum of the buffers that calls within one another bring to
-- it.
use Rattle.std.specs.Prelude.{◌≡◌, ℕ, zero, suc, ◌+◌, ◌==◌, max, List, [], ◌∷◌, ◌++◌, length, get_or}
use Rattle.std.specs.Prelude.{if◌then◌else◌}
use Rattle.sq_text.specs.declared.spread.SpreadRule.{SpreadRule}
use Rattle.sq_ir.specs.Written.{Setting}
use Rattle.sq_ir.specs.declared.plan.Draft.{Draft}
use Rattle.sq_ir.specs.declared.plan.PlanNode.{PlanNode}
use Rattle.sq_blocks.specs.declared.argument.Argument.{Argument}
use Rattle.sq_spec.specs.declared.statement.CallInstance.{CallInstance}
use Rattle.sq_spec.specs.declared.body.FormBody.{FormBody}
use Rattle.sq_spec.specs.declared.resolved.Resolved.{Resolved}
use Rattle.sq_nests.specs.Stacks.{total}
use Rattle.sq_nests.specs.Drafts.{nested_sum}
use Rattle.sq_placed.specs.declared.home.Home.{Home}
use Rattle.sq_placed.specs.declared.home.Home.TheVariants.{InPlace, Own, Held, Twin}
use Rattle.sq_placed.specs.declared.home.Homes.{Homes}
use Rattle.sq_placed.specs.Tables.{locals_of}
use Rattle.sq_placed.specs.Trees.{local_buffers, callee_node}
use Rattle.sq_term.specs.Terms.{body_in, homes_in}
use Rattle.sq_draft_laws.specs.Homes.Chosen.declared.choice.Choice.{Choice}
use Rattle.sq_draft_laws.specs.Homes.Chosen.Forms.{bodies_of}
use Rattle.sq_draft_laws.specs.Homes.Drafts.{IsDraftOf, homes_of, entry_of}
use Rattle.sq_draft_laws.specs.Choosing.{Walked, MayBeChosen, NoneOverlaps, setting_of}
use Rattle.sq_draft_laws.specs.Homes.Begun.{Begun, calls_of, child_in}

abbrev pub greatest : {A : Type 0} → (A → ℕ) → List A → ℕ
greatest f [] = 0
greatest f (x ∷ xs) = max (f x) (greatest f xs)

-- the buffers of an array that isn't in place, whether it leaves loops or not; both where its loop's transfers overlap
abbrev pub either_buffer : Home → List ℕ → List ℕ
either_buffer InPlace more = more
either_buffer (Own b) more = b ∷ more
either_buffer (Held b loops) more = b ∷ more
either_buffer (Twin b c) more = b ∷ c ∷ more

abbrev pub params_from : List Home → (i : ℕ) → List Argument → List ℕ
params_from homes i [] = []
params_from homes i (a ∷ rest) = either_buffer (get_or homes i InPlace) (params_from homes (suc i) rest)

-- the buffers that a call brings, those of what leaves loops round it too, and those of its locals
abbrev pub brought : (ℕ → FormBody) → (ℕ → Homes) → CallInstance → List ℕ
brought bodies homes r =
    params_from (homes r.form).params 0 r.args ++ local_buffers (locals_of (bodies r.form) (homes r.form))

-- so many bytes at this node are none at another one
abbrev pub here : (node x : ℕ) → ℕ → ℕ
here node x n = if node == x then n else 0

-- x: the node that is asked for
module _ (s : Setting) (bodies : ℕ → FormBody) (homes : ℕ → Homes) (x : ℕ) where
  -- where a call of a form at this node runs
  abbrev pub callee_at : SpreadRule → (node : ℕ) → Begun → ℕ
  callee_at rule node b = callee_node s b.lower node (child_in rule (s.children node) b.turn)

  -- inside: what it needs for a form at a node
  abbrev pub worth : (inside : ℕ → ℕ → ℕ) → SpreadRule → (node : ℕ) → Begun → ℕ
  worth inside rule node b =
      here (callee_at rule node b) x (total s.size (brought bodies homes b.row))
      + inside b.row.form (callee_at rule node b)

  -- for the calls of the k-th form at this node, no more than n forms being called within one another
  abbrev pub sum_of : (n k node : ℕ) → ℕ
  sum_of zero k node = 0
  sum_of (suc n) k node = greatest (worth (sum_of n) (homes k).rule node) (calls_of (bodies k).body)

  -- for the entry, whose arrays have these buffers
  abbrev pub entry_sum : (n : ℕ) → List ℕ → ℕ
  entry_sum n entry = here 0 x (total s.size (entry ++ local_buffers (locals_of (bodies 0) (homes 0)))) + sum_of n 0 0

-- ---- the law

-- the nested sum of a draft, by its tables
abbrev pub table_sum : Resolved → List Choice → List PlanNode → ℕ → ℕ
table_sum r choices nodes node =
    entry_sum (setting_of r choices nodes (λ b. 0)) (body_in (bodies_of r)) (homes_in (homes_of r choices)) node
    (length (bodies_of r)) (entry_of r choices)

-- Where no loop overlaps its transfers, what stands within one another at a node of a draft are the buffers of calls
-- within one another: each loop that an argument leaves has a call in it, so that the argument's buffer stands where
-- this call's other buffers do.
abbrev pub SumsAreOfCalls : Type 0
SumsAreOfCalls = (r : Resolved) → Walked r → (choices : List Choice) → MayBeChosen r choices → NoneOverlaps choices
    → (d : Draft) → IsDraftOf r choices d
    → (nodes : List PlanNode) (node : ℕ) → nested_sum d nodes node ≡ table_sum r choices nodes node
