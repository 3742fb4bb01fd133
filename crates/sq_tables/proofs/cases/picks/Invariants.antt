use Rattle.std.proofs.Common.{◌≡◌, ◌++◌, drop}
use Rattle.sq_term.specs.Terms.{numbers, picks}
use Rattle.sq_tables.proofs.cases.picks.Given as goal

abbrev pub invariant-loop-row : goal.invariant-loop-row
invariant-loop-row l = l.out.items ++ numbers (picks l.arms.list (drop l.row-index l.instances))
    ≡ numbers (picks l.arms.list l.instances)
