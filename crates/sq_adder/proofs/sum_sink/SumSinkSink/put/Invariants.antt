use Rattle.std.proofs.Common.{◌≡◌, ◌++◌, drop}
use Rattle.sq_adder.specs.Told.{sum_written}
use Rattle.sq_adder.proofs.sum_sink.SumSinkSink.put.Given as goal

abbrev pub invariant-loop-b : goal.invariant-loop-b
invariant-loop-b l = sum_written l.self ++ drop l.b-index l.piece ≡ sum_written l.initial.self ++ l.piece
