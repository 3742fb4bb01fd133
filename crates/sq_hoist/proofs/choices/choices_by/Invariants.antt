use Rattle.std.proofs.Common.{◌≡◌, ◌++◌, drop, nat_eq}
use Rattle.indexmap.specs.IndexMap.{get}
use Rattle.sq_hoist.specs.Choices.{choices_from}
use Rattle.sq_hoist.proofs.choices.choices_by.Given as goal

abbrev pub invariant-loop-number : goal.invariant-loop-number
invariant-loop-number l = l.out ++ choices_from (get nat_eq l.leaves.table) l.number (drop l.number l.forms)
    ≡ choices_from (get nat_eq l.leaves.table) 0 l.forms
