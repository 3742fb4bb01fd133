use Rattle.std.proofs.Common.{◌≡◌, ◌++◌, drop}
use Rattle.sq_tables.specs.Term.Terms as terms
use Rattle.sq_draft.proofs.held.held_moves.Given as goal

abbrev pub invariant-loop-left : goal.invariant-loop-left
invariant-loop-left l =
    l.out ++ terms.held_moves l.callee.shapes.now l.callee.homes.now l.views l.rows l.number (drop l.left-index l.lefts)
    ≡ terms.held_moves l.callee.shapes.now l.callee.homes.now l.views l.rows l.number l.lefts
