use Rattle.std.proofs.Common.{◌≡◌, ◌++◌, map, drop}
use Rattle.sq_hoist.proofs.nest.zeros.Given as goal

abbrev pub invariant-loop : goal.invariant-loop
invariant-loop l = record { same : l.ns ++ map (λ x. 0) (drop l.index l.args) ≡ map (λ x. 0) l.fn.args }
