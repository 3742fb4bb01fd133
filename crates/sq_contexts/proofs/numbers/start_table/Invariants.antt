use Rattle.std.proofs.Common.{◌≡◌, ◌++◌, drop}
use Rattle.sq_term.specs.Terms.{numbers}
use Rattle.sq_contexts.proofs.numbers.start_table.Given as goal

abbrev pub invariant-loop-start : goal.invariant-loop-start
invariant-loop-start l = l.out.items ++ numbers (drop l.start-index l.starts) ≡ numbers l.starts
