use Rattle.std.proofs.Common.{◌≡◌, ◌++◌, drop, map}
use Rattle.sq_arrays.specs.Arrays.{wanted}
use Rattle.sq_launch.specs.Arrays.{wants_of}
use Rattle.sq_launch.proofs.launch.wants_in.Given as goal

abbrev pub invariant-loop-array : goal.invariant-loop-array
invariant-loop-array l = map wanted l.wants.items ++ wants_of (drop l.array-index l.arrays) ≡ wants_of l.arrays
