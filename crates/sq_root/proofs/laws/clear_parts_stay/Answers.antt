use Rattle.sq_root.proofs.Keeping.{clear-stay}
use Rattle.sq_root.proofs.laws.clear_parts_stay.Goals as goal

pub returns : goal.returns
returns c = clear-stay
