use Rattle.std.proofs.Common.{sym, subst}
use Rattle.sq_plan_check.specs.Pairs.{AllNear, AreReached}
use Rattle.sq_clashes.proofs.Reached.{rows_reach}
use Rattle.sq_clashes.proofs.Finding.{all_near}
use Rattle.sq_clashes.proofs.clashes.first_pair.Goals as goal

pub rows_of-requires-clause-near : goal.rows_of-requires-clause-near
rows_of-requires-clause-near c =
    subst AllNear (sym c.as_slice-acts.ensures) (all_near c.args.plan.now c.args.entries.now c.in_ok-acts.acts c.requires c.in_ok-acts.ensures)

pub first_clash-requires-clause-near : goal.first_clash-requires-clause-near
first_clash-requires-clause-near c =
    subst AllNear (sym c.as_slice-acts.ensures) (all_near c.args.plan.now c.args.entries.now c.in_ok-acts.acts c.requires c.in_ok-acts.ensures)

pub first_clash-requires-clause-reached : goal.first_clash-requires-clause-reached
first_clash-requires-clause-reached c =
    let acts = c.as_slice-acts.result.now in
    subst (λ rows. AreReached rows acts) (sym c.as_slice.ensures) (rows_reach c.args.entries.now acts c.in_ok-rows.rows c.in_ok-rows.ensures)
