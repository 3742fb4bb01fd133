use Rattle.std.proofs.Common.{◌≡◌, ◌++◌, map, drop}
use Rattle.sq_tables.specs.Placed.Trees.{home_in_set}
use Rattle.sq_draft.specs.Piping.{set_number}
use Rattle.sq_draft.proofs.pipes.homes_in_set.Given as goal

abbrev pub invariant-loop-home : goal.invariant-loop-home
invariant-loop-home l = l.out ++ map (home_in_set (set_number l.set)) (drop l.home-index l.homes)
    ≡ map (home_in_set (set_number l.set)) l.homes
