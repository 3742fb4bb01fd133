use Rattle.std.proofs.Common.{◌≡◌, ◌≤◌, ◌^◌, drop}
use Rattle.sq_planheads.specs.Extents.{elements_from}
use Rattle.sq_planheads.proofs.extents.elements_of.Given as goal

abbrev pub invariant-loop-extent : goal.invariant-loop-extent
invariant-loop-extent l = record {
  left : elements_from l.elements (drop l.extent-index l.extents) ≡ elements_from 1 l.extents;
  within : l.elements ≤ 2 ^ 26;
}
