use Rattle.std.proofs.Common.{rules, arith, sym, ◌∙◌}
use Rattle.std.proofs.lemmas.Grind.{common_steps}
use Rattle.sq_patterns.specs.declared.pattern.Pattern.TheVariants as s
use Rattle.sq_patterns.specs.Reading.{until}
use Rattle.sq_costs.specs.Reading.{entry}
use Rattle.sq_patterns.proofs.Turns.{one_more, stops}
use Rattle.sq_costs.proofs.reading.entries_from.Goals as goal

pub returns-in_err-next : goal.returns-in_err-next
unfolding until
returns-in_err-next c =
    let e = one_more (λ n. until s.End entry n c.loop-turn.found c.loop-turn.tokens) _ c.loop-turn._turn c.loop-turn-test.true c.loop-turn.invariant in
    first_of (search rules, grind (arith, common_steps))

pub loop-turn-preserved : goal.loop-turn-preserved
unfolding until
loop-turn-preserved c =
    let e = one_more (λ n. until s.End entry n c.loop-turn.found c.loop-turn.tokens) _ c.loop-turn._turn c.loop-turn-test.true c.loop-turn.invariant in
    first_of (search rules, grind (arith, common_steps))

pub returns-then-sees : goal.returns-then-sees
returns-then-sees c =
    stops s.End entry _ c.loop-turn._turn c.loop-turn.found c.loop-turn.tokens c.loop-turn-test.true c.loop-turn.invariant (sym c.sees.ensures ∙ c.if-sees.true)
