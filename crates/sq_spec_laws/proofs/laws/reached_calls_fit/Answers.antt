use Rattle.sq_spec_laws.proofs.ReachedFactsHold.{reached_lie_inside, flags_are_of_text}
use Rattle.sq_spec_laws.proofs.laws.reached_calls_fit.Goals as goal

pub returns : goal.returns
returns c = record { inside = reached_lie_inside; flags = flags_are_of_text }
