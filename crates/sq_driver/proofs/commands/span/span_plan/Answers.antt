use Rattle.sq_driver.proofs.CostPhase.{costs_end, chain_ends}
use Rattle.sq_driver.proofs.commands.span.span_plan.Goals as goal

pub returns-in-Err-clause-evaluated : goal.returns-in-Err-clause-evaluated
returns-in-Err-clause-evaluated g c =
    costs_end c.args.words.now.program.now c.args.words.now.mapping.now c.args.words.now.machine.now
    c.args.words.now.cost.now _ c.args.resolved.now c.args.plan.now c.requires _ _ c.in-Err.end
    (rw c.machine.ensures at c.in-Err.ensures.told)

pub write_chain-requires : goal.write_chain-requires
write_chain-requires g c = c.requires.plan_is

pub returns-clause-evaluated : goal.returns-clause-evaluated
returns-clause-evaluated g c =
    chain_ends c.args.words.now.program.now c.args.words.now.mapping.now c.args.words.now.machine.now
    c.args.words.now.cost.now _ c.args.resolved.now c.args.plan.now c.requires c.in-Ok.costs
    (rw c.machine.ensures at c.in-Ok.ensures.told)
    c.plans_are_one.ensures _ _ _ _ c.write_chain.result c.write_chain.ensures.spans
