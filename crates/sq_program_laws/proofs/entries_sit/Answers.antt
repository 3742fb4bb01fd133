use Rattle.sq_program_laws.proofs.Plans.{entries_sit}
use Rattle.sq_program_laws.proofs.entries_sit.Goals as goal

pub returns : goal.returns
returns c = entries_sit
