use Rattle.std.proofs.Common.{◌≡◌, ◌++◌, map, false, drop}
use Rattle.sq_pipe.proofs.fitting.none_taken.Given as goal

abbrev pub invariant-loop : goal.invariant-loop
invariant-loop l = record { same : l.flags ++ map (λ x. false) (drop l.index l.forms) ≡ map (λ x. false) l.fn.forms }
