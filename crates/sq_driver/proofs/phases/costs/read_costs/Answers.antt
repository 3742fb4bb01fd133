use Rattle.sq_text.specs.declared.code.Phase.TheVariants.{Cost}
use Rattle.sq_driver.specs.Costing.{AreCostsText, IsFirstCostFault}
use Rattle.sq_driver.proofs.WholeFiles.{first_of_long, fitting_stops, right_held}
use Rattle.sq_driver.proofs.phases.costs.read_costs.Goals as goal

pub returns-in-Err-clause-told : goal.returns-in-Err-clause-told
returns-in-Err-clause-told g c = fitting_stops (AreCostsText c.args.machine.now.levels)
    (IsFirstCostFault c.args.machine.now.levels) Cost _ c.args.name.now
    (λ text long. first_of_long Cost text _ long) c.in-Err.end c.in-Err.ensures.told

pub returns-in-Ok-read_cost-clause-told : goal.returns-in-Ok-read_cost-clause-told
returns-in-Ok-read_cost-clause-told g c =
    right_held (AreCostsText c.args.machine.now.levels) (IsFirstCostFault c.args.machine.now.levels) Cost _
    c.args.name.now c.in-Ok.text c.in-Ok.ensures.told
    _ c.as_slice.ensures c.in-Ok-read_cost.costs c.in-Ok-read_cost.ensures.found
    (λ that is. c.in-Ok-read_cost.ensures.only that is)
    (λ f first. c.in-Ok-read_cost.ensures.answers f first.0)
