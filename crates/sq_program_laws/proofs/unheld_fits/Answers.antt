use Rattle.sq_program_laws.proofs.Unheld.{unheld_fits}
use Rattle.sq_program_laws.proofs.unheld_fits.Goals as goal

pub returns : goal.returns
returns c = unheld_fits
