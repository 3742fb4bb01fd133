use Rattle.std.proofs.Common.{◌≡◌, drop}
use Rattle.sq_spec.specs.Statements.{has_iterations}
use Rattle.sq_spec.proofs.statement.has_iterations.Given as goal

abbrev pub invariant-loop-count : goal.invariant-loop-count
invariant-loop-count l = has_iterations (drop l.count-index l.counts) ≡ has_iterations l.counts
