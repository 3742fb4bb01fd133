-- What nested sums and stacked buffers give.
use Rattle.std.specs.Prelude.{◌≡◌, ◌≢◌, ℕ, ◌<◌, ◌≤◌, false, List}
use Rattle.sq_ir.specs.Machines.{AreNodes}
use Rattle.sq_ir.specs.Written.{Setting, Env, written}
use Rattle.sq_ir.specs.Plans.{placed}
use Rattle.sq_ir.specs.declared.term.Term.{Term}
use Rattle.sq_ir.specs.declared.plan.Buffer.{Buffer}
use Rattle.sq_ir.specs.declared.plan.Draft.{Draft}
use Rattle.sq_ir.specs.declared.plan.PlanNode.{PlanNode}
use Rattle.sq_nests.specs.Nests.{Scopes, scopes_of, scopes_in}
use Rattle.sq_nests.specs.Stacks.{total, sum_at, IsChain}
use Rattle.sq_nests.specs.Drafts.{nested_sum}
use Rattle.sq_nests.specs.Needs.{need}
use Rattle.sq_nests.specs.Under.{Under}

pub record IsSumOf (size : ℕ → ℕ) (node : ℕ) (x : Scopes) : Type 0 where
  pub most : (bs : List ℕ) → IsChain node x bs → total size bs ≤ sum_at (total size) node x
  pub reached : (bs : List ℕ) × IsChain node x bs × (total size bs ≡ sum_at (total size) node x)

abbrev pub ChainsHold : Type 0
ChainsHold = (node : ℕ) (s : Setting) (x : Term) (env : Env) (bs : List ℕ)
    → IsChain node (scopes_in (written s x env)) bs → IsChain node (scopes_of s x env) bs

abbrev pub SumIsExact : Type 0
SumIsExact = ((size : ℕ → ℕ) (node : ℕ) (x : Scopes) → IsSumOf size node x) × ChainsHold

-- the sums that `nested_sums` tells
abbrev pub NeedIsSum : Type 0
NeedIsSum = (d : Draft) (nodes : List PlanNode) (node : ℕ) → need d nodes false node ≡ nested_sum d nodes node

-- what is below one child of a node is below no other
abbrev pub ScopesAreAside : Type 0
ScopesAreAside = (buffers : List Buffer) (nodes : List PlanNode) (offset : ℕ → ℕ) → AreNodes nodes → (node c d x : ℕ)
    → c < (placed buffers nodes offset).children node → d < (placed buffers nodes offset).children node → c ≢ d
    → Under (placed buffers nodes offset) ((placed buffers nodes offset).child node c) x
    → Under (placed buffers nodes offset) ((placed buffers nodes offset).child node d) x → ⊥
