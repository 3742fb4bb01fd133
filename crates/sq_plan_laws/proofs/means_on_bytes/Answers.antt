use Rattle.sq_plan_laws.proofs.PlacedEntry.{means_on_bytes}
use Rattle.sq_plan_laws.proofs.means_on_bytes.Goals as goal

pub returns : goal.returns
returns c = means_on_bytes
