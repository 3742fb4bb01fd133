use Rattle.sq_tree.proofs.Totals.{count-sums, edge-sums, whole-sums}
use Rattle.sq_tree.proofs.laws.runs_carry_what_the_plan_does.Goals as goal

pub returns-clause-sums : goal.returns-clause-sums
returns-clause-sums c = λ level es edges. (count-sums es, λ k h. edge-sums level es edges k h)

pub returns-clause-whole : goal.returns-clause-whole
returns-clause-whole c =
    whole-sums c.good_plans_have_one_result.ensures.by_form c.good_plans_have_one_result.ensures.once
