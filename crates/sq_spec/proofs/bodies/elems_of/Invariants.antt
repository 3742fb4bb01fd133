use Rattle.std.proofs.Common.{◌≡◌, ◌++◌, drop}
use Rattle.sq_spec.specs.Statements.{param_elems, local_elems}
use Rattle.sq_spec.proofs.bodies.elems_of.Given as goal

abbrev pub invariant-loop-p : goal.invariant-loop-p
invariant-loop-p l = l.elems ++ param_elems (drop l.p-index l.params) ≡ param_elems l.params

abbrev pub invariant-loop-local : goal.invariant-loop-local
invariant-loop-local l = l.elems ++ local_elems (drop l.local-index l.locals) ≡ param_elems l.params ++ local_elems l.locals
