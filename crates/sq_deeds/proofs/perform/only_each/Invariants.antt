use Rattle.std.proofs.Common.{◌≡◌, ◌-◌, [], ◌∷◌}
use Rattle.sq_deeds.specs.Loops.{only_where}
use Rattle.sq_deeds.specs.Deeds.{turns_done}
use Rattle.sq_deeds.proofs.perform.only_each.Given as goal

abbrev pub invariant-loop-j : goal.invariant-loop-j
invariant-loop-j l =
    turns_done l.columns (only_where l.at_zero l.test l.put ∷ []) (l.turns - l.j) l.j l.bytes
    ≡ turns_done l.columns (only_where l.at_zero l.test l.put ∷ []) l.turns 0 l.fn.bytes
