use Rattle.std.proofs.Common.{◌≡◌, ◌++◌, map, drop}
use Rattle.sq_draft.specs.Term.Terms.{buffer_or}
use Rattle.sq_homes.proofs.draft.buffers_named.Given as goal

abbrev pub invariant-loop-home : goal.invariant-loop-home
invariant-loop-home l = l.out ++ map buffer_or (drop l.home-index l.homes) ≡ map buffer_or l.homes
