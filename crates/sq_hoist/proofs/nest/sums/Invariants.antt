use Rattle.std.proofs.Common.{◌≡◌, ◌++◌, drop}
use Rattle.sq_hoist.specs.Counts.{sums}
use Rattle.sq_hoist.proofs.nest.sums.Given as goal

abbrev pub invariant-loop-count : goal.invariant-loop-count
invariant-loop-count l = record { same : l.ns ++ sums (drop l.count-index l.each) l.rest ≡ sums l.fn.each l.fn.sizes }
