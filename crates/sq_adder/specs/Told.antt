-- What a sink that adds up was given.
use Rattle.std.specs.Prelude.{ℕ, List}
use Rattle.sq_adder.specs.declared.sum_sink.SumSink.{SumSink}
use Rattle.sq_adder.specs.Sums.{bytes_told}

abbrev pub sum_written : SumSink → List ℕ
sum_written s = bytes_told s.told.items
