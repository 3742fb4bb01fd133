use Rattle.std.proofs.Common.{◌≡◌, ◌++◌, map, drop}
use Rattle.sq_hoist.proofs.nest.ones.Given as goal

abbrev pub invariant-loop : goal.invariant-loop
invariant-loop l = record { same : l.ns ++ map (λ x. 1) (drop l.index l.rows) ≡ map (λ x. 1) l.fn.rows }
