use Rattle.std.proofs.Common.{rules, ◌≡◌, ◌∷◌, sym, ◌∙◌}
use Rattle.sq_planevents.proofs.Turns.{meet_last, apart_last, meets_yes, meets_other, meets_none, empty_is}
use Rattle.sq_planevents.proofs.twice.+meets.Goals as goal

pub returns-then-is_empty-clause-yes : goal.returns-then-is_empty-clause-yes
returns-then-is_empty-clause-yes t c = λ h.
    let steps : c.args.steps.now ≡ c.in-Some.first.now ∷ c.in-Some.rest.now = search rules in
    let none = empty_is c.in-Some.rest.now c.is_empty.result c.is_empty.ensures c.if-is_empty.true in
    meet_last c.in-Some.first.now c.args.steps.now c.in-Some.rest.now c.args.x c.args.y c.between.result steps none c.between.ensures (sym c.leads.ensures ∙ h)

pub returns-then-is_empty-clause-none : goal.returns-then-is_empty-clause-none
returns-then-is_empty-clause-none t c = λ h.
    let steps : c.args.steps.now ≡ c.in-Some.first.now ∷ c.in-Some.rest.now = search rules in
    let none = empty_is c.in-Some.rest.now c.is_empty.result c.is_empty.ensures c.if-is_empty.true in
    apart_last c.in-Some.first.now c.args.steps.now c.in-Some.rest.now c.args.x c.args.y c.between.result steps none c.between.ensures (sym c.leads.ensures ∙ h)

pub returns-then-meets-clause-yes : goal.returns-then-meets-clause-yes
returns-then-meets-clause-yes t c = λ h.
    let steps : c.args.steps.now ≡ c.in-Some.first.now ∷ c.in-Some.rest.now = search rules in
    meets_yes c.args.steps.now c.in-Some.first.now c.in-Some.rest.now c.args.x c.args.y c.loop-k.k c.turn.result steps c.loop-k-test.true c.turn.ensures (c.meets.ensures.yes c.if-meets.true)

pub returns-then-meets-2-clause-yes : goal.returns-then-meets-2-clause-yes
returns-then-meets-2-clause-yes t c = λ h.
    let steps : c.args.steps.now ≡ c.in-Some.first.now ∷ c.in-Some.rest.now = search rules in
    meets_other c.args.steps.now c.in-Some.first.now c.in-Some.rest.now c.args.x c.args.y c.loop-k.k c.turn-in-loop-k.result steps c.loop-k-test.true c.turn-in-loop-k.ensures (c.meets-in-loop-k.ensures.yes c.if-meets-2.true)

pub returns-clause-none : goal.returns-clause-none
returns-clause-none t c = λ h.
    let steps : c.args.steps.now ≡ c.in-Some.first.now ∷ c.in-Some.rest.now = search rules in
    meets_none c.args.steps.now c.in-Some.first.now c.in-Some.rest.now c.args.x c.args.y c.loop-k.k steps c.loop-k-test.false c.loop-k.invariant
