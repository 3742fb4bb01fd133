use Rattle.sq_draft_laws.proofs.HeldInside.{homes_are_held_inside}
use Rattle.sq_draft_laws.proofs.homes_are_held_inside.Goals as goal

pub returns : goal.returns
returns c = homes_are_held_inside
