use Rattle.std.proofs.Common.{◌≡◌, ◌-◌}
use Rattle.sq_deeds.specs.Deeds.{turns_done}
use Rattle.sq_deeds.proofs.perform.each_turn.Given as goal

abbrev pub invariant-loop-j : goal.invariant-loop-j
invariant-loop-j l = turns_done l.columns l.deeds (l.turns - l.j) l.j l.bytes ≡ turns_done l.columns l.deeds l.turns 0 l.fn.bytes
