use Rattle.std.proofs.Common.{rules, ◌≡◌, false, refl, sym, ap, ◌∙◌}
use Rattle.sq_term_nums.specs.Words.{value}
use Rattle.sq_sums.specs.Tops.{has_scope, stand_of, at_turn, env_at, raise_to, raise_by}
use Rattle.sq_sums.specs.Scales.{arm_index}
use Rattle.sq_sums.specs.Grounds.{weight_on, tops_on}
use Rattle.sq_sums.proofs.TopForms.{top_case}
use Rattle.sq_sums.proofs.Flats.{flat_turns_raised}
use Rattle.sq_sums.proofs.Turning.{next_turn, last_turn, this_arm, no_arm, case_is}
use Rattle.sq_sums.proofs.walk.+walking.Goals as goal

pub walk_each-loop-i-preserved : goal.walk_each-loop-i-preserved
walk_each-loop-i-preserved t c =
    next_turn raise_to (λ i. tops_on c.args.on.now c.args.body.now (at_turn (stand_of c.args.at.now) i)) c.args.n
    c.loop-i.i _ c.loop-i.sums _ _ c.loop-i-test.true refl c.walk.ensures c.loop-i.invariant

pub walk_each-returns : goal.walk_each-returns
walk_each-returns t c =
    last_turn raise_to (λ i. tops_on c.args.on.now c.args.body.now (at_turn (stand_of c.args.at.now) i)) c.args.n
    c.loop-i.i c.loop-i.sums _ c.loop-i-test.false c.loop-i.invariant

pub walk-returns-in-Case : goal.walk-returns-in-Case
walk-returns-in-Case t c =
    let at = stand_of c.args.at.now in
    let nodes = c.args.on.now.nodes.now in
    case_is raise_to (tops_on c.args.on.now) (value c.in-Case.pick (env_at nodes at))
    (tops_on c.args.on.now c.args.t.now at) c.in-Case.arms c.as_slice-in-Case.result.now c.arm_for-i.result
    c.len.result at _ _
    (ap (λ z. tops_on c.args.on.now z at) c.in-Case.is
    ∙ ap (λ f. f at) (top_case nodes (weight_on c.args.on.now) c.in-Case.pick c.in-Case.arms))
    c.as_slice-in-Case.ensures c.len.ensures
    (c.arm_for-i.ensures ∙ ap (λ e. arm_index (value c.in-Case.pick e) c.len.result) c.env-in-Case.ensures)
    c.walk_arm.ensures

pub walk_arm-returns-then-i-arms : goal.walk_arm-returns-then-i-arms
walk_arm-returns-then-i-arms t c =
    c.walk.ensures ∙ ap (λ z. raise_by z c.args.sums.now)
    (ap (λ z. tops_on c.args.on.now z (stand_of c.args.at.now)) c.index-arms-i.is
    ∙ this_arm (tops_on c.args.on.now) c.args.arms.now c.args.i (stand_of c.args.at.now) c.index-arms-i.result
    c.if-i-arms.true)

pub walk_arm-returns-else-i-arms : goal.walk_arm-returns-else-i-arms
walk_arm-returns-else-i-arms t c =
    ap (λ z. raise_by z c.args.sums.now)
    (sym (no_arm (tops_on c.args.on.now) c.args.arms.now c.args.i (stand_of c.args.at.now) c.if-i-arms.false))

pub walk_turns-returns-else-has_scope : goal.walk_turns-returns-else-has_scope
walk_turns-returns-else-has_scope t c =
    let e : has_scope c.args.body.now ≡ false = search rules in
    sym (flat_turns_raised c.args.on.now.nodes.now (weight_on c.args.on.now) c.args.body.now (stand_of c.args.at.now)
    c.args.n c.args.sums.now e)
