use Rattle.std.proofs.Common.{◌≡◌, ◌-◌}
use Rattle.sq_ast.specs.Symbols.{symbols}
use Rattle.sq_reader.specs.Reading.{many_from}
use Rattle.sq_reader.proofs.parts.some_more.Given as goal

abbrev pub invariant-loop-turn : goal.invariant-loop-turn
invariant-loop-turn g l = many_from g.P.Leading.leads (g.P.Part.parser l.depth) l.most l.fn.before (symbols l.fn.tokens)
    ≡ many_from g.P.Leading.leads (g.P.Part.parser l.depth) (l.most - l._turn) l.found (symbols l.tokens)
