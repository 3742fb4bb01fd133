use Rattle.std.proofs.Common.{◌≡◌, drop, map}
use Rattle.std.specs.Prelude.{nat_lt}
use Rattle.sq_planfile.specs.Limits.{greatest, depth}
use Rattle.sq_planfile.proofs.depth.+measuring.Given as goal

abbrev pub invariant-is_any_deeper-loop-part : goal.invariant-is_any_deeper-loop-part
invariant-is_any_deeper-loop-part l = nat_lt l.levels (greatest (map depth (drop l.part-index l.parts))) ≡ nat_lt l.levels (greatest (map depth l.parts))
