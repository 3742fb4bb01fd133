use Rattle.std.proofs.Common.{rules, arith}
use Rattle.std.proofs.lemmas.Grind.{common_steps}
use Rattle.sq_planread.specs.Reading.{many_from, goes_on, inner}
use Rattle.sq_planread.proofs.Turns.{one_more}
use Rattle.sq_planread.proofs.terms.+terms.Goals as goal

pub terms-returns-in_err-next : goal.terms-returns-in_err-next
unfolding many_from
terms-returns-in_err-next t c =
    let e = one_more (λ n. many_from goes_on (inner c.args.depth) n c.loop-turn.found c.loop-turn.tokens) _ c.loop-turn._turn c.loop-turn-test.true c.loop-turn.invariant in
    first_of (search rules, grind (arith, common_steps))

pub terms-loop-turn-preserved : goal.terms-loop-turn-preserved
unfolding many_from
terms-loop-turn-preserved t c =
    let e = one_more (λ n. many_from goes_on (inner c.args.depth) n c.loop-turn.found c.loop-turn.tokens) _ c.loop-turn._turn c.loop-turn-test.true c.loop-turn.invariant in
    first_of (search rules, grind (arith, common_steps))
