-- What the grammar of cost files gives: what is read is a text, a text is read, and every beginning of a text is one.
use Rattle.sq_patterns.proofs.Places.{Format}
use Rattle.sq_costs.specs.Grammar.{IsText}
use Rattle.sq_costs.specs.Reading as reading
use Rattle.sq_costs.proofs.Points.{ways, start, closing, closes}
use Rattle.sq_costs.proofs.Derived.{cost_reads}
use Rattle.sq_costs.proofs.Complete.{cost_read}

pub cost_format : Format IsText reading.cost ways
cost_format = record { start = start; reads = cost_reads; read = cost_read; closing = closing; closes = closes }
