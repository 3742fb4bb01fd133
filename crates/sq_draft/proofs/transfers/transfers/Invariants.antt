use Rattle.std.proofs.Common.{◌≡◌, ◌++◌, map, drop}
use Rattle.sq_draft.specs.Building.{transfer_term}
use Rattle.sq_draft.proofs.transfers.transfers.Given as goal

abbrev pub invariant-loop-m : goal.invariant-loop-m
invariant-loop-m l = l.out.items ++ map (transfer_term l.which) (drop l.m-index l.ms) ≡ map (transfer_term l.which) l.ms
