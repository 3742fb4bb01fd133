use Rattle.sq_plan_laws.proofs.Openings.{scopes_open}
use Rattle.sq_plan_laws.proofs.scopes_open.Goals as goal

pub returns : goal.returns
returns g c = scopes_open _ _
