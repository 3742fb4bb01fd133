use Rattle.std.proofs.Common.{◌≡◌, ◌++◌, drop}
use Rattle.sq_tables.specs.Term.Terms as terms
use Rattle.sq_draft.proofs.held.leaving_buffers.Given as goal

abbrev pub invariant-loop-left : goal.invariant-loop-left
invariant-loop-left l = l.out ++ terms.leaving_buffers l.homes (drop l.left-index l.lefts)
    ≡ terms.leaving_buffers l.homes l.lefts
