use Rattle.std.proofs.Common.{◌≡◌, ◌-◌}
use Rattle.sq_deeds.specs.Loops.{in_turn, where_turn}
use Rattle.sq_deeds.proofs.tested.where_loop.Given as goal

abbrev pub invariant-loop-j : goal.invariant-loop-j
invariant-loop-j l =
    in_turn (where_turn l.columns l.elem l.rise l.it) (l.turns - l.j) l.j l.bytes
    ≡ in_turn (where_turn l.columns l.elem l.rise l.it) l.turns 0 l.fn.bytes
