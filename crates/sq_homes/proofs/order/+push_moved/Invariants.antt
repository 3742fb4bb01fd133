use Rattle.sq_homes.proofs.order.+push_moved.Given as goal

abbrev pub decreases-push_moved : goal.decreases-push_moved
decreases-push_moved l = l.n
