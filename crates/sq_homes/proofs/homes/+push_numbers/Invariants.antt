use Rattle.sq_homes.proofs.homes.+push_numbers.Given as goal

abbrev pub decreases-push_numbers : goal.decreases-push_numbers
decreases-push_numbers l = l.n
