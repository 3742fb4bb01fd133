use Rattle.sq_program_laws.proofs.Unpiped.{unpiped_fits}
use Rattle.sq_program_laws.proofs.unpiped_fits.Goals as goal

pub returns : goal.returns
returns c = unpiped_fits
