use Rattle.std.proofs.Common.{◌≡◌, ◌++◌, drop}
use Rattle.sq_planfile.specs.File.{entry_arrays}
use Rattle.sq_planfile.proofs.entry.entry_arrays.Given as goal

abbrev pub invariant-loop-i : goal.invariant-loop-i
invariant-loop-i l = l.arrays ++ entry_arrays (drop l.i l.params) (drop l.i l.extents) (drop l.i l.buffers) ≡ entry_arrays l.params l.extents l.buffers
