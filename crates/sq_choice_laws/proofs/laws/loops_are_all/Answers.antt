use Rattle.sq_choice_laws.proofs.Listed.{loops_are_all}
use Rattle.sq_choice_laws.proofs.laws.loops_are_all.Goals as goal

pub returns : goal.returns
returns c = loops_are_all
