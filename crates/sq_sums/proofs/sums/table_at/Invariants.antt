use Rattle.std.proofs.Common.{◌≡◌, ◌+◌, drop}
use Rattle.sq_sums.specs.Sums.{table_at}
use Rattle.sq_sums.proofs.sums.table_at.Given as goal

abbrev pub invariant-loop-i : goal.invariant-loop-i
invariant-loop-i l = l.i + table_at (drop l.i l.tables) l.fan ≡ table_at l.tables l.fan
