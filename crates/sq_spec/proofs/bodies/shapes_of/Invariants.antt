use Rattle.std.proofs.Common.{◌≡◌, ◌++◌, drop}
use Rattle.sq_spec.specs.Works.{param_shapes, local_shapes}
use Rattle.sq_spec.proofs.bodies.shapes_of.Given as goal

abbrev pub invariant-loop-i : goal.invariant-loop-i
invariant-loop-i l = l.shapes ++ param_shapes (drop l.i l.params) l.i l.extents ≡ param_shapes l.params 0 l.extents

abbrev pub invariant-loop-local : goal.invariant-loop-local
invariant-loop-local l = l.shapes ++ local_shapes (drop l.local-index l.locals) ≡ param_shapes l.params 0 l.extents ++ local_shapes l.locals
