use Rattle.sq_plan_laws.proofs.PlacedEntry.{placed_follows}
use Rattle.sq_plan_laws.proofs.placed_follows.Goals as goal

pub returns : goal.returns
returns c = placed_follows
