use Rattle.std.proofs.Common.{rules}
use Rattle.trial_spec.proofs.leaf.end_of.Goals as goal

pub run_leaf-end-requires : goal.run_leaf-end-requires
run_leaf-end-requires c = c.are_in_line.ensures.enough (search rules) _
