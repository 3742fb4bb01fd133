use Rattle.sq_choice_laws.proofs.Hoists.{hoisted_is_outermost}
use Rattle.sq_choice_laws.proofs.laws.hoisted_is_outermost.Goals as goal

pub returns : goal.returns
returns c = hoisted_is_outermost
