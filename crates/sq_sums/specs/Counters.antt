-- Sums of a term's actions on a machine.
use Rattle.std.specs.Prelude.{ℕ}
use Rattle.sq_ir.specs.declared.term.Action.{Action}
use Rattle.sq_ir.specs.declared.term.Term.{Term}
use Rattle.sq_sums.specs.declared.flow.Toll.{Toll}
use Rattle.sq_sums.specs.declared.tally.Counter.{Counter}
use Rattle.sq_sums.specs.Tolls.{SumAt, toll, sum_of}

abbrev pub toll_by : Toll → Action → ℕ
toll_by t = toll t.buffers.now t.kind

abbrev pub sum_on : Counter → Term → SumAt
sum_on c t = sum_of c.nodes.now (toll_by c.toll) t
