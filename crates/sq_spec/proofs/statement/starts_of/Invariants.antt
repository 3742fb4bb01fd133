use Rattle.std.proofs.Common.{◌≡◌, ◌++◌, drop}
use Rattle.sq_spec.specs.Statements.{starts_from}
use Rattle.sq_spec.proofs.statement.starts_of.Given as goal

abbrev pub invariant-loop-count : goal.invariant-loop-count
invariant-loop-count l = l.starts ++ starts_from l.start (drop l.count-index l.counts) ≡ starts_from 0 l.counts
