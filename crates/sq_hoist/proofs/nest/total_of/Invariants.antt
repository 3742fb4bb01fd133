use Rattle.std.proofs.Common.{◌≡◌, ◌+◌, drop}
use Rattle.sq_hoist.specs.Counts.{total}
use Rattle.sq_hoist.proofs.nest.total_of.Given as goal

abbrev pub invariant-loop-size : goal.invariant-loop-size
invariant-loop-size l = record { same : l.sum + total (drop l.size-index l.sizes) ≡ total l.fn.sizes }
