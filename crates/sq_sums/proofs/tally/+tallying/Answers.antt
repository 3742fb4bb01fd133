use Rattle.std.proofs.Common.{refl, sym, ap, ◌∙◌}
use Rattle.sq_term_nums.specs.Words.{value}
use Rattle.sq_nests.specs.Stacks.{capped}
use Rattle.sq_sums.specs.Scales.{arm_index}
use Rattle.sq_sums.specs.Tops.{stand_of, at_turn, env_at}
use Rattle.sq_sums.specs.Counters.{toll_by, sum_on}
use Rattle.sq_sums.proofs.SumForms.{sum_skip, sum_case}
use Rattle.sq_sums.proofs.Running.{nothing, next_item, last_item, next_turn, last_turn, this_arm, no_arm, case_is}
use Rattle.sq_sums.proofs.tally.+tallying.Goals as goal

pub tally_all-loop-t-preserved : goal.tally_all-loop-t-preserved
tally_all-loop-t-preserved t c = (
  c.capped_sum-total.type_inv,
  next_item (sum_on c.args.on.now) c.args.ts.now
      (stand_of c.args.at.now) c.loop-t.t-index _ c.loop-t.total c.tally.result c.capped_sum-total.result
      c.t-item.result _
      c.loop-t-test.true refl c.t-item.is c.tally.ensures c.capped_sum-total.ensures c.loop-t.invariant.1,
)

pub tally_all-returns : goal.tally_all-returns
tally_all-returns t c =
    last_item (sum_on c.args.on.now) c.args.ts.now
    (stand_of c.args.at.now) c.loop-t.t-index c.loop-t.total c.loop-t-test.false c.loop-t.invariant.0
    c.loop-t.invariant.1

pub tally_turns-loop-i-preserved : goal.tally_turns-loop-i-preserved
tally_turns-loop-i-preserved t c = (
  c.capped_sum-total.type_inv,
  next_turn (λ j. sum_on c.args.on.now c.args.body.now
      (at_turn (stand_of c.args.at.now) j)) c.args.n c.loop-i.i _ c.loop-i.total c.tally.result
      c.capped_sum-total.result
      c.loop-i-test.true refl c.tally.ensures c.capped_sum-total.ensures c.loop-i.invariant.1,
)

pub tally_turns-returns : goal.tally_turns-returns
tally_turns-returns t c =
    last_turn (λ j. sum_on c.args.on.now c.args.body.now (at_turn (stand_of c.args.at.now) j)) c.args.n c.loop-i.i
    c.loop-i.total c.loop-i-test.false c.loop-i.invariant.0 c.loop-i.invariant.1

pub tally-returns-in-Skip : goal.tally-returns-in-Skip
tally-returns-in-Skip t c =
    nothing ∙ sym (ap (λ z. capped (sum_on c.args.on.now z (stand_of c.args.at.now))) c.in-Skip.is
    ∙ ap (λ f. capped (f (stand_of c.args.at.now)))
    (sum_skip c.args.on.now.nodes.now (toll_by c.args.on.now.toll)))

pub tally-returns-in-Case : goal.tally-returns-in-Case
tally-returns-in-Case t c =
    let at = stand_of c.args.at.now in
    let nodes = c.args.on.now.nodes.now in
    case_is (sum_on c.args.on.now) capped (value c.in-Case.pick (env_at nodes at))
    (sum_on c.args.on.now c.args.t.now at) c.in-Case.arms c.as_slice-in-Case.result.now c.arm_for-i.result
    c.len.result at c.tally_arm.result
    (ap (λ z. sum_on c.args.on.now z at) c.in-Case.is
    ∙ ap (λ f. f at) (sum_case nodes (toll_by c.args.on.now.toll) c.in-Case.pick c.in-Case.arms))
    c.as_slice-in-Case.ensures c.len.ensures
    (c.arm_for-i.ensures ∙ ap (λ e. arm_index (value c.in-Case.pick e) c.len.result) c.env-in-Case.ensures)
    c.tally_arm.ensures

pub tally_arm-returns-then-i-arms : goal.tally_arm-returns-then-i-arms
tally_arm-returns-then-i-arms t c =
    c.tally.ensures ∙ ap (λ z. capped (sum_on c.args.on.now z (stand_of c.args.at.now))) c.index-arms-i.is
    ∙ ap capped (this_arm (sum_on c.args.on.now) c.args.arms.now c.args.i
    (stand_of c.args.at.now) c.index-arms-i.result c.if-i-arms.true)

pub tally_arm-returns-else-i-arms : goal.tally_arm-returns-else-i-arms
tally_arm-returns-else-i-arms t c = nothing ∙ ap capped
    (sym (no_arm (sum_on c.args.on.now) c.args.arms.now c.args.i (stand_of c.args.at.now) c.if-i-arms.false))
