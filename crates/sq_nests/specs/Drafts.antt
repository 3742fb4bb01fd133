-- Which drafts can be placed on a machine, what its nodes need, and what a placed draft keeps to.
use Rattle.std.specs.Prelude.{ℕ, ◌≤◌, ◌<◌, List, [], ◌∷◌, length, get_or, None}
use Rattle.sq_ir.specs.Scopes.{InEachState}
use Rattle.sq_ir.specs.Written.{at_root, written}
use Rattle.sq_ir.specs.Machines.{AreNodes}
use Rattle.sq_ir.specs.Plans.{AskedOfActions, Meets, placed, of_buffer, node_at, setting_of, tree_of, HaveRoom}
use Rattle.sq_ir.specs.declared.term.Term.{Term}
use Rattle.sq_ir.specs.declared.term.Term.TheVariants as t
use Rattle.sq_ir.specs.declared.plan.Buffer.{Buffer}
use Rattle.sq_ir.specs.declared.plan.Draft.{Draft}
use Rattle.sq_ir.specs.declared.plan.PlanNode.{PlanNode}
use Rattle.sq_ir.specs.declared.plan.Plan.{Plan}
use Rattle.sq_nests.specs.Nests.{named_in, Scopes, scopes_of}
use Rattle.sq_nests.specs.Stacks.{total, sum_at, of_level, HaveBefore, AreLaid, AreAside}

-- the draft's term in the scope of the entry's buffers
abbrev pub whole : Draft → Term
whole d = t.Within None d.entry d.term

abbrev pub size_in : List Buffer → ℕ → ℕ
size_in buffers = of_buffer buffers (λ b. b.size)

-- of actions nothing is asked
abbrev pub Nothing : AskedOfActions
Nothing env bs a = Unit {0}

-- What is asked of a draft on these nodes, whatever the offsets of its buffers: numbers have their values, counts
-- aren't negative, children are there, and each buffer that a scope names is there with the level of the scope's node;
-- scopes that stand in two parts beside one another never have one node; each buffer stands behind the same others of
-- its level wherever a scope names it.
pub record IsPlaceable (d : Draft) (nodes : List PlanNode) : Type 0 where
  pub machine : AreNodes nodes
  pub term : (offset : ℕ → ℕ) → Meets (placed d.buffers nodes offset) Nothing (whole d) at_root []
  pub aside : (offset : ℕ → ℕ) → AreAside (written (placed d.buffers nodes offset) (whole d) at_root)
  pub before : ℕ → List ℕ
  pub stacks : (level : ℕ) → HaveBefore (of_level d.buffers level) before [] (named_in (whole d))

-- the scopes of the draft written out on these nodes; offsets don't matter
abbrev pub scopes : Draft → List PlanNode → Scopes
scopes d nodes = scopes_of (placed d.buffers nodes (λ b. 0)) (whole d) at_root

-- the greatest sum of the sizes of buffers whose scopes stand within one another at a node
abbrev pub nested_sum : Draft → List PlanNode → ℕ → ℕ
nested_sum d nodes node = sum_at (total (size_in d.buffers)) node (scopes d nodes)

-- no node's sum exceeds its capacity
abbrev pub HasSpace : Draft → List PlanNode → Type 0
HasSpace d nodes = (node : ℕ) → node < length nodes → nested_sum d nodes node ≤ (node_at nodes node).capacity

-- the buffers of each of eight levels lie one behind the other, those of inner scopes behind those of the scopes round
-- them
abbrev pub AllLaid : Draft → List ℕ → Type 0
AllLaid d offsets = (level : ℕ) → level < 8
    → AreLaid (of_level d.buffers level) (λ b. get_or offsets b 0) (size_in d.buffers) 0 (named_in (whole d))

-- in each state the live buffers have room, and so have the entry's where there is no event
pub record KeepsRoom (p : Plan) : Type 0 where
  pub states : InEachState (HaveRoom (setting_of p)) (tree_of p)
  pub entry : HaveRoom (setting_of p) (record { node = 0; buffers = p.draft.entry } ∷ [])

abbrev pub LaidHaveRoom : Type 0
LaidHaveRoom = (d : Draft) (nodes : List PlanNode) (offsets : List ℕ) → IsPlaceable d nodes → AllLaid d offsets
    → HasSpace d nodes
    → KeepsRoom (record { draft = d; offsets = offsets; nodes = nodes })
