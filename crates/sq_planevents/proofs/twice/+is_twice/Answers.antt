use Rattle.std.proofs.Common.{rules, ◌≡◌, ◌∷◌}
use Rattle.sq_planevents.proofs.Turns.{never_twice}
use Rattle.sq_planevents.proofs.twice.+is_twice.Goals as goal

pub returns-clause-none : goal.returns-clause-none
returns-clause-none t c = λ h.
    let steps : c.args.steps.now ≡ c.in-Some.first.now ∷ c.in-Some.rest.now = search rules in
    never_twice c.args.steps.now c.in-Some.first.now c.in-Some.rest.now c.turns_within-turns.result c.span_of.result c.loop-k.k steps c.turns_within-turns.ensures c.span_of.ensures c.loop-k-test.false c.loop-k.invariant (c.is_twice.ensures.none h)
