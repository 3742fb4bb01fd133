use Rattle.sq_hoist.proofs.notes.+push_out.Given as goal

abbrev pub decreases-push_out : goal.decreases-push_out
decreases-push_out l = l.loops
