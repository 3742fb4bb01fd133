use Rattle.sq_demo_laws.proofs.Sounded.{no_type_fault}
use Rattle.sq_demo_laws.proofs.laws.the_program_is_faultless.Goals as goal

pub returns : goal.returns
returns c = no_type_fault
