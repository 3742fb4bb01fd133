use Rattle.std.proofs.Common.{◌≡◌, drop}
use Rattle.std.specs.List.{list_any}
use Rattle.sq_term.specs.Terms.{is_same_arm}
use Rattle.sq_tables.proofs.cases.has_arm.Given as goal

abbrev pub invariant-loop-arm : goal.invariant-loop-arm
invariant-loop-arm l = list_any (is_same_arm l.r) (drop l.arm-index l.arms) ≡ list_any (is_same_arm l.r) l.arms
