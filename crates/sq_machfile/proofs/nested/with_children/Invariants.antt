use Rattle.sq_machfile.proofs.Walks.{Popped}
use Rattle.sq_machfile.proofs.nested.with_children.Given as goal

abbrev pub invariant-loop-turn : goal.invariant-loop-turn
invariant-loop-turn l = Popped l.fn.nodes l.nodes l.counts.items l.found.items l._turn
