use Rattle.std.proofs.Common.{◌≡◌, ◌<◌, drop}
use Rattle.std.specs.List.{fold}
use Rattle.sq_picks.specs.OrderList as spec
use Rattle.sq_picks.proofs.picks.number_of.Given as goal

abbrev pub invariant-loop-b : goal.invariant-loop-b
invariant-loop-b l = record {
  number : fold spec.with_digit l.number (drop l.b-index l.digits) ≡ spec.number l.digits;
  small : l.number < 4294967296;
}
