use Rattle.sq_homes.proofs.order.+push_leaving.Given as goal

abbrev pub decreases-push_leaving : goal.decreases-push_leaving
decreases-push_leaving l = l.n
