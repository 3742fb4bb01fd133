use Rattle.std.proofs.Common.{◌≡◌, replicate, false}
use Rattle.sq_pipe.proofs.reach.no_flags.Given as goal

abbrev pub invariant-loop-made : goal.invariant-loop-made
invariant-loop-made l = l.flags ≡ replicate l._made false
