use Rattle.sq_areas.proofs.residues.+common.Given as goal

abbrev pub decreases-common : goal.decreases-common
decreases-common l = l.b
