-- What the grammar of machine files gives: what is read is a text, a text is read, and every beginning of a text is
-- one.
use Rattle.sq_patterns.proofs.Places.{Format}
use Rattle.sq_machfile.specs.Grammar.{IsText}
use Rattle.sq_machfile.specs.Reading as reading
use Rattle.sq_machfile.proofs.Points.{ways, start, closing, closes}
use Rattle.sq_machfile.proofs.Derived.{machine_reads}
use Rattle.sq_machfile.proofs.Complete.{machine_read}

pub machine_format : Format IsText reading.machine ways
machine_format = record { start = start; reads = machine_reads; read = machine_read; closing = closing; closes = closes }
