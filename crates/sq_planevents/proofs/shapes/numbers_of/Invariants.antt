use Rattle.std.proofs.Common.{◌≡◌, [], drop}
use Rattle.sq_planevents.specs.Shapes.{bound}
use Rattle.sq_planevents.proofs.shapes.numbers_of.Given as goal

abbrev pub invariant-loop-binding : goal.invariant-loop-binding
invariant-loop-binding l = bound l.numbers (drop l.binding-index l.bindings) ≡ bound [] l.bindings
