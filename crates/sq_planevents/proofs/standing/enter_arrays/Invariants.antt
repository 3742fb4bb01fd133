use Rattle.std.proofs.Common.{◌≡◌, ◌++◌, map, drop}
use Rattle.sq_planevents.proofs.standing.enter_arrays.Given as goal

abbrev pub invariant-loop-array : goal.invariant-loop-array
invariant-loop-array l = l.scopes ++ map (λ a. a.buffer) (drop l.array-index l.arrays) ≡ l.fn.scopes ++ map (λ a. a.buffer) l.arrays
