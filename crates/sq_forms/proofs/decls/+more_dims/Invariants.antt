use Rattle.std.proofs.Common.{length}
use Rattle.sq_forms.proofs.decls.+more_dims.Given as goal

abbrev pub decreases-more_dims : goal.decreases-more_dims
decreases-more_dims l = length l.list.now
