use Rattle.sq_plan_laws.proofs.PlacedEntry.{placed_is_independent}
use Rattle.sq_plan_laws.proofs.placed_is_independent.Goals as goal

pub returns : goal.returns
returns c = placed_is_independent
