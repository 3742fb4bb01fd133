use Rattle.std.proofs.Common.{◌≡◌}
use Rattle.trial_spec.proofs.flat.fill.Given as goal

abbrev pub invariant-loop-number : goal.invariant-loop-number
invariant-loop-number l = l.arrays.shapes ≡ l.fn.arrays.shapes
