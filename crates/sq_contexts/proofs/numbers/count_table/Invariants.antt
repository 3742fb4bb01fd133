use Rattle.std.proofs.Common.{◌≡◌, ◌++◌, drop}
use Rattle.sq_term.specs.Terms.{numbers}
use Rattle.sq_contexts.proofs.numbers.count_table.Given as goal

abbrev pub invariant-loop-count : goal.invariant-loop-count
invariant-loop-count l = l.out.items ++ numbers (drop l.count-index l.counts) ≡ numbers l.counts
