use Rattle.std.proofs.Common.{◌≡◌, ◌++◌, drop}
use Rattle.sq_flat.specs.Memory as spec
use Rattle.sq_flat.proofs.codes.lined.Given as goal

abbrev pub invariant-loop-shape : goal.invariant-loop-shape
invariant-loop-shape l = l.views ++ spec.lined l.end (drop l.shape-index l.shapes) ≡ spec.lined 0 l.shapes
