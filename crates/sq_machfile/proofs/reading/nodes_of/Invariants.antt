use Rattle.std.proofs.Common.{◌≡◌, ◌-◌}
use Rattle.sq_machfile.specs.Reading as spec
use Rattle.sq_machfile.proofs.reading.nodes_of.Given as goal

abbrev pub invariant-loop-turn : goal.invariant-loop-turn
invariant-loop-turn l = spec.nodes_of l.fn.root l.fn.tokens ≡ spec.nodes_in (l._turn-end - l._turn) l.depth l.found l.tokens
