use Rattle.std.proofs.Common.{◌≡◌, ◌++◌, drop, map}
use Rattle.sq_arrays.specs.Arrays.{wanted}
use Rattle.sq_ast.specs.Modes.{is_read}
use Rattle.sq_driver.specs.Entry.{wants_of}
use Rattle.sq_driver.proofs.phases.entry.wants_in.Given as goal

abbrev pub invariant-loop-i : goal.invariant-loop-i
invariant-loop-i l = map wanted l.wants.items ++ wants_of is_read (drop l.i l.params) l.i l.extents ≡ wants_of is_read
    l.params 0 l.extents
