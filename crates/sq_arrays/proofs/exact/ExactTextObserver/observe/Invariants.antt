use Rattle.std.proofs.Common.{◌≡◌, drop}
use Rattle.std.specs.List.{fold}
use Rattle.sq_arrays.specs.Exact.{same_step}
use Rattle.sq_arrays.proofs.exact.ExactTextObserver.observe.Given as goal

abbrev pub invariant-loop-b : goal.invariant-loop-b
invariant-loop-b l = fold same_step l.self (drop l.b-index l.piece) ≡ fold same_step l.initial.self l.piece
