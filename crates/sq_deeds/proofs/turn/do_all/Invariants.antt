use Rattle.std.proofs.Common.{◌≡◌, drop}
use Rattle.sq_deeds.specs.Deeds.{all_done}
use Rattle.sq_deeds.proofs.turn.do_all.Given as goal

abbrev pub invariant-loop-deed : goal.invariant-loop-deed
invariant-loop-deed l = all_done l.columns (drop l.deed-index l.deeds) l.j l.bytes ≡ all_done l.columns l.deeds l.j l.fn.bytes
