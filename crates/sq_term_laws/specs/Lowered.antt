-- The draft of tables and homes on the nodes of a machine, and what makes it one that can be placed.
use Rattle.std.specs.Prelude.{◌≡◌, ℕ, ◌<◌, List, []}
use Rattle.sq_ir.specs.Machines.{AreNodes}
use Rattle.sq_ir.specs.Written.{at_root}
use Rattle.sq_ir.specs.Plans.{Meets, of_buffer, placed}
use Rattle.sq_ir.specs.declared.plan.Draft.{Draft}
use Rattle.sq_ir.specs.declared.plan.PlanNode.{PlanNode}
use Rattle.sq_blocks.specs.declared.argument.Argument.{Argument}
use Rattle.sq_spec.specs.declared.body.FormBody.{FormBody}
use Rattle.sq_placed.specs.declared.home.Homes.{Homes}
use Rattle.sq_placed.specs.Pipes.{PipesStand}
use Rattle.sq_term.specs.Terms.{entry_term}
use Rattle.sq_term.specs.Stands.{AreLeveled}
use Rattle.sq_nests.specs.Drafts.{whole, Nothing, IsPlaceable}
use Rattle.sq_term_laws.specs.Overlapping.{OverlapsStand}
use Rattle.sq_term_laws.specs.Callers.{home_buffers, Numbering, AreNumbered}

pub record IsLowered (d : Draft) (nodes : List PlanNode) (bodies : ℕ → FormBody) (homes : ℕ → Homes) (n : ℕ)
    (args : List Argument) (level : ℕ → ℕ) (k : Numbering) : Type 0 where
  pub machine : AreNodes nodes
  pub term : d.term ≡ entry_term bodies homes n args
  pub entry : d.entry ≡ home_buffers (homes 0).params
  pub numbered : AreNumbered d.buffers bodies homes k
  pub pipes : PipesStand bodies homes
  pub overlaps : OverlapsStand bodies homes
  -- whatever the offsets: only the levels of buffers are looked at
  pub leveled : (offset : ℕ → ℕ) → AreLeveled (placed d.buffers nodes offset) bodies homes level
  pub root : level 0 ≡ 0
  pub first : of_buffer d.buffers (λ b. b.level) 0 ≡ 0
  pub few : (f : ℕ) → level f < machine.levels

-- the numbers of the term have their values, and its scopes are there
abbrev pub HasNumbers : Draft → List PlanNode → Type 0
HasNumbers d nodes = (offset : ℕ → ℕ) → Meets (placed d.buffers nodes offset) Nothing (whole d) at_root []

abbrev pub LoweredIsPlaceable : Type 0
LoweredIsPlaceable = (d : Draft) (nodes : List PlanNode) (bodies : ℕ → FormBody) (homes : ℕ → Homes) (n : ℕ)
    (args : List Argument) (level : ℕ → ℕ) (k : Numbering)
    → IsLowered d nodes bodies homes n args level k → HasNumbers d nodes → IsPlaceable d nodes
