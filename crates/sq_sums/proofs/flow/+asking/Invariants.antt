use Rattle.std.proofs.Common.{◌≡◌, drop}
use Rattle.sq_sums.specs.Flows.{all_ask}
use Rattle.sq_sums.proofs.flow.+asking.Given as goal

abbrev pub invariant-any_asks-loop-t : goal.invariant-any_asks-loop-t
invariant-any_asks-loop-t l = all_ask (drop l.t-index l.ts) ≡ all_ask l.ts
