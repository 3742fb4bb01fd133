use Rattle.std.proofs.Common.{◌≡◌, ◌++◌, drop}
use Rattle.sq_spec.specs.Works.{param_shapes}
use Rattle.sq_flat.proofs.entry.shapes_of.Given as goal

abbrev pub invariant-loop-i : goal.invariant-loop-i
invariant-loop-i l = l.shapes ++ param_shapes (drop l.i l.params) l.i l.extents ≡ param_shapes l.params 0 l.extents
