use Rattle.std.proofs.Common.{◌≡◌, ◌++◌, map, drop}
use Rattle.sq_contexts.proofs.context.push_own.Given as goal

abbrev pub invariant-loop-m : goal.invariant-loop-m
invariant-loop-m l = l.out ++ map (λ m. m.own) (drop l.m-index l.ms) ≡ l.fn.out ++ map (λ m. m.own) l.ms
