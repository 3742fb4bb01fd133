use Rattle.std.proofs.Common.{◌≡◌}
use Rattle.sq_sched.specs.Words.{fans_to}
use Rattle.sq_sched.proofs.sizes.fans_of.Given as goal

abbrev pub invariant-loop-level : goal.invariant-loop-level
invariant-loop-level l = l.fans ≡ fans_to l.nodes l.level
