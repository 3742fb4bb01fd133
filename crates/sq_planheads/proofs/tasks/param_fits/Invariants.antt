use Rattle.std.proofs.Common.{◌≡◌, ◌≤◌, ◌^◌, drop, map}
use Rattle.sq_planheads.specs.Extents.{elements_from}
use Rattle.sq_planheads.specs.Leaves.{extent_of}
use Rattle.sq_planheads.proofs.tasks.param_fits.Given as goal

abbrev pub invariant-loop-extent : goal.invariant-loop-extent
invariant-loop-extent l = record {
  left : elements_from l.elements (map (extent_of l.numbers) (drop l.extent-index l.extents)) ≡ elements_from 1 (map (extent_of l.numbers) l.extents);
  within : l.elements ≤ 2 ^ 26;
}
