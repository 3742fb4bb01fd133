use Rattle.std.proofs.Common.{rules, arith}
use Rattle.std.proofs.lemmas.Grind.{common_steps}
use Rattle.sq_planread.specs.Reading.{many_from}
use Rattle.sq_planread.proofs.Turns.{one_more}
use Rattle.sq_planread.proofs.pieces.more.Goals as goal

pub returns-in_err-next : goal.returns-in_err-next
unfolding many_from
returns-in_err-next g c =
    let e = one_more (λ n. many_from g.P.Leading.begins (g.P.Piece.reader c.args.depth) n c.loop-turn.found c.loop-turn.tokens) _ c.loop-turn._turn c.loop-turn-test.true c.loop-turn.invariant in
    first_of (search rules, grind (arith, common_steps))

pub loop-turn-preserved : goal.loop-turn-preserved
unfolding many_from
loop-turn-preserved g c =
    let e = one_more (λ n. many_from g.P.Leading.begins (g.P.Piece.reader c.args.depth) n c.loop-turn.found c.loop-turn.tokens) _ c.loop-turn._turn c.loop-turn-test.true c.loop-turn.invariant in
    first_of (search rules, grind (arith, common_steps))
