-- What the placed source means.
use Rattle.std.specs.Prelude.{ℕ, false, List}
use Rattle.sq_ir.specs.Blocks.declared.argument.Argument.{Argument}
use Rattle.sq_spec.specs.declared.body.FormBody.{FormBody}
use Rattle.sq_spec.specs.Bodies.{numbered_work}
use Rattle.sq_spec.specs.Work.Work as work
use Rattle.sq_placed.specs.declared.home.Homes.{Homes}
use Rattle.sq_placed.specs.Placed.{plain}
use Rattle.sq_placed.specs.Tables.{entry_placed}
use Rattle.sq_placed.specs.Pipes.{PipesStand}
use Rattle.sq_placed.specs.SameWorks.{IsSameWork}

-- the placed source does what its tables do, in all iterations that there are
abbrev pub PlacedIsWork : Type 0
PlacedIsWork = (bodies : ℕ → FormBody) (homes : ℕ → Homes) → PipesStand bodies homes → (n : ℕ) (args : List Argument)
    → IsSameWork (plain (entry_placed bodies homes n args)) (work.Call 0 false args (numbered_work bodies n 0))
