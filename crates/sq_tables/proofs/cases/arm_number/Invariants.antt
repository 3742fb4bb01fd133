use Rattle.std.proofs.Common.{◌≡◌, ◌+◌, drop}
use Rattle.sq_term.specs.Terms.{arm_number}
use Rattle.sq_tables.proofs.cases.arm_number.Given as goal

abbrev pub invariant-loop-arm : goal.invariant-loop-arm
invariant-loop-arm l = record {
  number : l.number ≡ l.arm-index;
  is : l.number + arm_number (drop l.arm-index l.arms) l.r ≡ arm_number l.arms l.r;
}
