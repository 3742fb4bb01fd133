use Rattle.std.proofs.Common.{◌≡◌, [], drop}
use Rattle.sq_planheads.specs.Leaves.{with_bindings}
use Rattle.sq_planheads.proofs.names.numbers_of.Given as goal

abbrev pub invariant-loop-binding : goal.invariant-loop-binding
invariant-loop-binding l = with_bindings l.numbers (drop l.binding-index l.bindings) ≡ with_bindings [] l.bindings
