use Rattle.std.proofs.Common.{◌≡◌, ◌++◌, drop}
use Rattle.sq_launch.specs.Arrays.{read_places}
use Rattle.sq_launch.proofs.places.read_places.Given as goal

abbrev pub invariant-loop-array : goal.invariant-loop-array
invariant-loop-array l = l.places.items ++ read_places l.plan (drop l.array-index l.arrays) ≡ read_places l.plan l.arrays
