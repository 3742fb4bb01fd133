use Rattle.sq_homes.proofs.homes.+push_homes.Given as goal

abbrev pub decreases-push_homes : goal.decreases-push_homes
decreases-push_homes l = l.n
