use Rattle.std.proofs.Common.{◌≡◌, ◌++◌, drop}
use Rattle.sq_pipe.specs.Greedy.{overlaps_from}
use Rattle.sq_pipe.proofs.choices.overlaps_of.Given as goal

abbrev pub invariant-loop-form : goal.invariant-loop-form
invariant-loop-form l = l.out ++ overlaps_from l.taken l.form (drop l.form l.choices)
    ≡ overlaps_from l.taken 0 l.choices
