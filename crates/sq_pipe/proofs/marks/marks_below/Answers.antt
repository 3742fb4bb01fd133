use Rattle.sq_pipe.specs.Runs.{flags_at}
use Rattle.sq_pipe.proofs.marks.marks_below.Goals as goal

pub mark_below-requires : goal.mark_below-requires
mark_below-requires c = c.turn_to.ensures.flags (flags_at c.args.r.now) c.requires
