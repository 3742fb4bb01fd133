use Rattle.std.proofs.Common.{◌≡◌, ◌++◌, length}
use Rattle.std.specs.Vec.Iter.{into_iter_items, into_iter_len}
use Rattle.sq_homes.specs.Drafts.{leaves_from}
use Rattle.sq_homes.proofs.draft.leaves_of.Given as goal

abbrev pub invariant-loop-body : goal.invariant-loop-body
invariant-loop-body l = (l.out ++ leaves_from l.r l.form (into_iter_items l.body-iterator) ≡ leaves_from l.r 0
    l.fn.bodies.items)
    × (into_iter_len l.body-iterator ≡ length (into_iter_items l.body-iterator))
