use Rattle.std.proofs.Common.{◌≡◌, [], drop}
use Rattle.sq_pipe.specs.Greedy as spec
use Rattle.sq_pipe.proofs.fitting.taken_from.Given as goal

abbrev pub invariant-loop-c : goal.invariant-loop-c
invariant-loop-c l =
    spec.taken_from (λ taken. spec.have_room taken 0 l.forms l.rooms []) l.taken (drop l.c-index l.candidates)
    ≡ spec.taken_from (λ taken. spec.have_room taken 0 l.forms l.rooms []) (spec.none_taken l.forms) l.candidates
