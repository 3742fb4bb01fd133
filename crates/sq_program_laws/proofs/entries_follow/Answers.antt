use Rattle.sq_program_laws.proofs.Follows.{entries_follow}
use Rattle.sq_program_laws.proofs.entries_follow.Goals as goal

pub returns : goal.returns
returns c = entries_follow
