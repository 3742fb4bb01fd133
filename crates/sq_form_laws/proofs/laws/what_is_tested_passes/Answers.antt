use Rattle.sq_form_laws.proofs.LawsHold.{all_passed}
use Rattle.sq_form_laws.proofs.laws.what_is_tested_passes.Goals as goal

pub returns : goal.returns
returns c = all_passed
