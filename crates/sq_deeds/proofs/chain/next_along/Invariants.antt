use Rattle.std.proofs.Common.{◌≡◌, ◌-◌}
use Rattle.sq_leaf.specs.Spots.{load}
use Rattle.sq_deeds.specs.Deeds.{byte_at}
use Rattle.sq_deeds.specs.Loops.{in_turn, next_turn}
use Rattle.sq_deeds.proofs.chain.next_along.Given as goal

abbrev pub invariant-loop-j : goal.invariant-loop-j
invariant-loop-j l = record {
  meets : l.x ≡ load (record { elem = l.elem; at = byte_at l.rise l.j }) l.bytes;
  left : in_turn (next_turn l.columns l.elem l.rise l.links) (l.turns - l.j) l.j l.bytes ≡ in_turn (next_turn l.columns l.elem l.rise l.links) l.turns 0 l.fn.bytes;
}
