use Rattle.sq_pipe.proofs.marks.+mark_children.Given as goal

abbrev pub decreases-mark_children : goal.decreases-mark_children
decreases-mark_children l = l.count
