-- Banks that are open with a plan.
use Rattle.std.specs.Prelude.{ℕ, ◌+◌, ◌≤◌, List, length}
use Rattle.sq_ir.specs.declared.plan.Plan.{Plan}
use Rattle.sq_tree.specs.Bank.{BankSeen, IsOpened, IsPrepared, PutsRoot, size_in}

-- A bank that was opened with a plan is prepared with it.
abbrev pub OpenedArePrepared : Type 0
OpenedArePrepared = (p : Plan) (old now : BankSeen) → IsOpened p old now → IsPrepared p now

-- It stays so where bytes are put into its root.
abbrev pub PutsKeepPrepared : Type 0
PutsKeepPrepared =
    (p : Plan) (at : ℕ) (from : List ℕ) (old now : BankSeen) → at + length from ≤ size_in old.nodes 0
    → PutsRoot at from old now → IsPrepared p old → IsPrepared p now
