use Rattle.std.proofs.Common.{◌≡◌, ◌++◌, drop}
use Rattle.sq_pipe.specs.Notes.{overlap_notes}
use Rattle.sq_pipe.proofs.notes.push_overlaps.Given as goal

abbrev pub invariant-loop-c : goal.invariant-loop-c
invariant-loop-c l = l.out ++ overlap_notes l.r l.taken (drop l.c-index l.list)
    ≡ l.fn.out ++ overlap_notes l.r l.taken l.list
