-- What the grammar of mapping files gives: what is read is a text, a text is read, and every beginning of a text is
-- one.
use Rattle.sq_patterns.proofs.Places.{Format}
use Rattle.sq_mapfile.specs.declared.text.Tunables.{Tunables}
use Rattle.sq_mapfile.specs.declared.text.Tunables.TheVariants.{Fixed}
use Rattle.sq_mapfile.specs.Grammar.{IsTextOf}
use Rattle.sq_mapfile.specs.Reading as reading
use Rattle.sq_mapfile.proofs.Points.{ways, start, closing, closes}
use Rattle.sq_mapfile.proofs.Derived.{mapping_reads}
use Rattle.sq_mapfile.proofs.Complete.{mapping_read}

pub format : (tunables : Tunables) → Format (IsTextOf tunables) (reading.mapping tunables) ways
format tunables = record { start = start tunables; reads = mapping_reads tunables; read = mapping_read tunables; closing = closing; closes = closes }

pub mapping_format : Format (IsTextOf Fixed) (reading.mapping Fixed) ways
mapping_format = format Fixed
