use Rattle.sq_program_laws.proofs.LeafCalls.{calls_are_of_tables}
use Rattle.sq_program_laws.proofs.calls_are_of_tables.Goals as goal

pub returns : goal.returns
returns c = calls_are_of_tables
