use Rattle.sq_span.proofs.Spanning.{refused, taken, spanned, heaviest-span}
use Rattle.sq_span.proofs.spans.heaviest_chain.Goals as goal

pub returns-in_default-clause-answers : goal.returns-in_default-clause-answers
returns-in_default-clause-answers g c = refused c.args.plan.now c.args.costs.now c.requires c.costs_are_small.ensures c.events_fault.result c.events_fault.ensures c.in_default.ensures

pub returns-clause-answers : goal.returns-clause-answers
returns-clause-answers g c = taken c.args.plan.now c.args.costs.now c.requires c.costs_are_small.ensures c.in-Some.heft c.in-Some.ensures

pub returns-clause-span : goal.returns-clause-span
returns-clause-span g c = spanned c.args.plan.now c.args.costs.now c.requires c.costs_are_small.ensures c.in-Some.heft c.in_ok-chain.chain c.from.result c.in-Some.ensures c.in_ok-chain.ensures c.from.ensures

pub returns-clause-heaviest : goal.returns-clause-heaviest
returns-clause-heaviest g c = heaviest-span c.args.plan.now c.args.costs.now c.requires c.costs_are_small.ensures c.in-Some.heft c.in_ok-chain.chain c.in-Some.ensures c.in_ok-chain.ensures
