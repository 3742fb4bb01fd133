use Rattle.std.proofs.Common.{◌≡◌, ◌-◌}
use Rattle.sq_planread.specs.Reading.{many_after, many_from}
use Rattle.sq_planread.proofs.pieces.more.Given as goal

abbrev pub invariant-loop-turn : goal.invariant-loop-turn
invariant-loop-turn g l = many_after g.P.Leading.begins (g.P.Piece.reader l.depth) l.fn.before l.fn.tokens
    ≡ many_from g.P.Leading.begins (g.P.Piece.reader l.depth) (l._turn-end - l._turn) l.found l.tokens
