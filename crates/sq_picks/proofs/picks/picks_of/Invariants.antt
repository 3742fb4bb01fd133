use Rattle.std.proofs.Common.{◌≡◌, ◌+◌, ◌<◌, ◌^◌, None, length}
use Rattle.sq_picks.specs.OrderList as spec
use Rattle.sq_picks.proofs.picks.picks_of.Given as goal

abbrev pub invariant-loop-i : goal.invariant-loop-i
invariant-loop-i l = record {
  line : l.place.line + length l.text < 2 ^ 31 + l.i + 1;
  col : l.place.col + length l.text < 2 ^ 31 + l.i + 1;
  begun : spec.IsBegun l.begun l.i;
  same : spec.left l.text l.i l.place l.begun l.picks.items ≡ spec.picks_of (spec.words_from (record { line = 1; col = 1 }) None l.text);
}
