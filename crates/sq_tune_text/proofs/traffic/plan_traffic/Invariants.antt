use Rattle.std.proofs.Common.{◌≡◌}
use Rattle.sq_nests.specs.Stacks.{capped}
use Rattle.sq_sums.specs.Tolls.{IsTolled}
use Rattle.sq_tune_text.proofs.Sums.{up_to}
use Rattle.sq_tune_text.proofs.traffic.plan_traffic.Given as goal

abbrev pub invariant-loop-edge : goal.invariant-loop-edge
invariant-loop-edge l = IsTolled l.plan → l.sum ≡ capped (up_to l.plan l.edge)
