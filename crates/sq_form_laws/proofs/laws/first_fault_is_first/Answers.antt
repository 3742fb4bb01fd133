use Rattle.sq_form_laws.proofs.LawsHold.{first_fault}
use Rattle.sq_form_laws.proofs.laws.first_fault_is_first.Goals as goal

pub returns : goal.returns
returns c = first_fault
