use Rattle.std.proofs.Common.{◌≡◌, ◌++◌, drop}
use Rattle.sq_chosen.specs.SpecLaws.Spec.Works.{entry_arguments}
use Rattle.sq_homes.proofs.entry.arguments.Given as goal

abbrev pub invariant-loop-i : goal.invariant-loop-i
invariant-loop-i l = l.args ++ entry_arguments (drop l.i l.params) l.i l.extents ≡ entry_arguments l.params 0 l.extents
