use Rattle.sq_written_laws.proofs.Moved.{moved_ends}
use Rattle.sq_written_laws.proofs.laws.moved_leaves_end_alike.Goals as goal

pub returns : goal.returns
returns c d e moved t m = moved_ends d e moved t m
