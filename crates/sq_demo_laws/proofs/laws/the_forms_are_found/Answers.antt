use Rattle.sq_demo_laws.proofs.Resolved.{program_resolves}
use Rattle.sq_demo_laws.proofs.laws.the_forms_are_found.Goals as goal

pub returns : goal.returns
returns c = program_resolves
