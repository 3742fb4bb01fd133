use Rattle.std.proofs.Common.{◌≡◌, drop}
use Rattle.std.specs.List.{fold}
use Rattle.sq_arrays.specs.Numbers.{number_step}
use Rattle.sq_arrays.proofs.value.NumberObserver.observe.Given as goal

abbrev pub invariant-loop-b : goal.invariant-loop-b
invariant-loop-b l = fold number_step l.kept (drop l.b-index l.piece) ≡ fold number_step l.initial.kept l.piece
