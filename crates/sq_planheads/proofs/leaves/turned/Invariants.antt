use Rattle.std.proofs.Common.{◌≡◌, ◌+◌, ◌++◌, reverse, length}
use Rattle.sq_planheads.proofs.leaves.turned.Given as goal

abbrev pub invariant-loop-left : goal.invariant-loop-left
invariant-loop-left l = record {
  whole : l.turned ++ reverse l.leaves ≡ reverse l.fn.leaves;
  left : length l.leaves + l._left ≡ length l.fn.leaves;
}
