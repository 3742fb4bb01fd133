use Rattle.sq_homes.proofs.order.+push_hoisted.Given as goal

abbrev pub decreases-push_hoisted : goal.decreases-push_hoisted
decreases-push_hoisted l = l.d
