use Rattle.std.proofs.Common.{◌≡◌, ◌-◌}
use Rattle.sq_deeds.specs.Loops.{in_turn, carry_turn}
use Rattle.sq_deeds.proofs.carry.carry_each.Given as goal

abbrev pub invariant-loop-j : goal.invariant-loop-j
invariant-loop-j l =
    in_turn (carry_turn l.columns l.to.elem l.op l.to.rise l.from.elem l.from.rise l.links) (l.turns - l.j) l.j l.bytes
    ≡ in_turn (carry_turn l.columns l.to.elem l.op l.to.rise l.from.elem l.from.rise l.links) l.turns 0 l.fn.bytes
