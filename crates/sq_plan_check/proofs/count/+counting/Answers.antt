use Rattle.std.proofs.Common.{◌+◌, length, sym, ap, ap₂, ◌∙◌}
use Rattle.sq_ir.specs.Tree.{waiting}
use Rattle.sq_sched.specs.declared.frames.Spread.{Spread}
use Rattle.sq_sched.specs.Words.{env_of, value, node_here}
use Rattle.sq_sched.specs.Shapes.{seq_of, par_of, written}
use Rattle.sq_sched.specs.Forms.{made, inside}
use Rattle.sq_walks.specs.Walks.{tree_at, part_at, turn_at, child_at, loop_of, spread_of}
use Rattle.sq_walks.proofs.Trees.{tree-par, tree-loop, tree-spread, tree-case, tree-within, arm_in, turn-here, turn-elsewhere}
use Rattle.sq_plan_check.specs.Walked.{few}
use Rattle.sq_plan_check.proofs.Counting.{weights, done-waiting, waiting-turns, waiting-lanes, waiting-scope, sum-start, sum-more, sum-full, sum-end, sum-passed}
use Rattle.sq_plan_check.proofs.count.+counting.Goals as goal

pub count-returns-in-Par : goal.count-returns-in-Par
count-returns-in-Par t c =
    let env = c.args.env.now in
    let ts = c.in-Par.parts in
    let f = part_at env ts in
    c.count_parts-in-Par.ensures ∙ ap (λ ts. few (waiting (seq_of (length ts) (part_at env ts) 0))) c.as_slice-in-Par.ensures
    ∙ ap few (waiting-turns (length ts) f 0 ∙ sym (waiting-lanes (length ts) f 0))
    ∙ sym (ap (λ x. few (waiting x)) (ap (tree_at env) c.in-Par.is ∙ tree-par env ts))

pub count-returns-in-Loop : goal.count-returns-in-Loop
count-returns-in-Loop t c =
    let env = c.args.env.now in
    let n = c.in-Loop.count in
    c.count_child.ensures ∙ ap (λ s. few (waiting (child_at env s c.get-body.result.now 0))) c.loop_of.ensures
    ∙ ap (λ b. few (waiting (child_at env (loop_of env n b) b 0))) c.get-body.ensures
    ∙ sym (ap (λ x. few (waiting x)) (ap (tree_at env) c.in-Loop.is ∙ tree-loop env n c.in-Loop.body))

pub count-returns-in-Spread : goal.count-returns-in-Spread
count-returns-in-Spread t c =
    let env = c.args.env.now in
    let n = c.in-Spread.count in
    let r = c.in-Spread.rule in
    c.count_children.ensures
    ∙ ap (λ (s : Spread). few (waiting (par_of s.children (child_at env s c.get-body-in-Spread.result.now) 0))) c.spread_of.ensures
    ∙ ap (λ b. few (waiting (par_of (spread_of env n r b).children (child_at env (spread_of env n r b) b) 0))) c.get-body-in-Spread.ensures
    ∙ sym (ap (λ x. few (waiting x)) (ap (tree_at env) c.in-Spread.is ∙ tree-spread env n r c.in-Spread.body))

pub count-returns-in-Case : goal.count-returns-in-Case
count-returns-in-Case t c =
    let env = c.args.env.now in
    let z = value env.plan.now c.in-Case.pick (env_of env) in
    c.count_arm.ensures
    ∙ ap₂ (λ ts i. few (waiting (part_at env ts i))) c.as_slice-in-Case.ensures (c.arm_for-i.ensures ∙ ap (arm_in env z) c.len.ensures)
    ∙ sym (ap (λ x. few (waiting x)) (ap (tree_at env) c.in-Case.is ∙ tree-case env c.in-Case.pick c.in-Case.arms))

pub count-returns-in-Within : goal.count-returns-in-Within
count-returns-in-Within t c =
    let env = c.args.env.now in
    let child = c.in-Within.child in
    let at = inside env.plan.now child (env_of env) in
    c.count_inside.ensures ∙ ap (λ b. few (waiting (written ((made env.plan.now b).form at)))) c.get.ensures
    ∙ ap few (sym (waiting-scope (node_here at) c.in-Within.buffers (written ((made env.plan.now c.in-Within.body).form at))))
    ∙ sym (ap (λ x. few (waiting x)) (ap (tree_at env) c.in-Within.is ∙ tree-within env child c.in-Within.buffers c.in-Within.body))

pub count_child-loop-turn-init : goal.count_child-loop-turn-init
count_child-loop-turn-init t c =
    let env = c.args.env.now in
    let s = c.args.spread in
    let f = turn_at env s c.args.body.now c.args.child in
    let n = c.next_at-turn.ensures in (
      n.high,
      n.here,
      sum-passed s.turns (weights f) 0 0 c.next_at-turn.result n.low n.high (λ k p q. done-waiting (f k) (turn-elsewhere env s c.args.body.now c.args.child k (n.skipped k p q))) (sum-start s.turns (weights f)),
    )

pub count_parts-loop-i-init : goal.count_parts-loop-i-init
count_parts-loop-i-init t c = sum-start (length c.args.parts.now) (weights (part_at c.args.env.now c.args.parts.now))

pub count_children-loop-child-init : goal.count_children-loop-child-init
count_children-loop-child-init t c = sum-start c.args.spread.children (weights (child_at c.args.env.now c.args.spread c.args.body.now))

pub count_parts-loop-i-preserved : goal.count_parts-loop-i-preserved
count_parts-loop-i-preserved t c =
    let f = part_at c.args.env.now c.args.parts.now in
    sum-more (length c.args.parts.now) (weights f) c.loop-i.whole c.loop-i.i c.in-Some.joined c.count_arm-here.result c.loop-i-test.true c.loop-i.invariant c.count_arm-here.ensures c.in-Some.ensures

pub count_parts-returns-in_default : goal.count_parts-returns-in_default
count_parts-returns-in_default t c =
    let n = length c.args.parts.now in
    let f = part_at c.args.env.now c.args.parts.now in
    sum-full n (weights f) c.loop-i.whole c.loop-i.i c.count_arm-here.result c.loop-i-test.true c.loop-i.invariant c.count_arm-here.ensures c.in_default.ensures ∙ ap few (sym (waiting-turns n f 0))

pub count_parts-returns : goal.count_parts-returns
count_parts-returns t c =
    let n = length c.args.parts.now in
    let f = part_at c.args.env.now c.args.parts.now in
    sum-end n (weights f) c.loop-i.whole c.loop-i.i c.loop-i-test.false c.loop-i.invariant ∙ ap few (sym (waiting-turns n f 0))

pub count_children-loop-child-preserved : goal.count_children-loop-child-preserved
count_children-loop-child-preserved t c =
    let f = child_at c.args.env.now c.args.spread c.args.body.now in
    sum-more c.args.spread.children (weights f) c.loop-child.whole c.loop-child.child c.in-Some.joined c.count_child-here.result c.loop-child-test.true c.loop-child.invariant c.count_child-here.ensures c.in-Some.ensures

pub count_children-returns-in_default : goal.count_children-returns-in_default
count_children-returns-in_default t c =
    let n = c.args.spread.children in
    let f = child_at c.args.env.now c.args.spread c.args.body.now in
    sum-full n (weights f) c.loop-child.whole c.loop-child.child c.count_child-here.result c.loop-child-test.true c.loop-child.invariant c.count_child-here.ensures c.in_default.ensures ∙ ap few (sym (waiting-lanes n f 0))

pub count_children-returns : goal.count_children-returns
count_children-returns t c =
    let n = c.args.spread.children in
    let f = child_at c.args.env.now c.args.spread c.args.body.now in
    sum-end n (weights f) c.loop-child.whole c.loop-child.child c.loop-child-test.false c.loop-child.invariant ∙ ap few (sym (waiting-lanes n f 0))

pub count_child-loop-turn-preserved : goal.count_child-loop-turn-preserved
count_child-loop-turn-preserved t c =
    let env = c.args.env.now in
    let s = c.args.spread in
    let b = c.args.body.now in
    let f = turn_at env s b c.args.child in
    let u = c.loop-turn.turn in
    let inv = c.loop-turn.invariant in
    let lt = c.loop-turn-test.true in
    let here = c.count-here.ensures ∙ ap (λ x. few (waiting x)) (sym (turn-here env s b c.args.child u (inv.1 lt))) in
    let st = sum-more s.turns (weights f) c.loop-turn.whole u c.in-Some.joined c.count-here.result lt inv.2 here c.in-Some.ensures in
    let n = c.next_at-turn-in-loop-turn.ensures in (
      n.high,
      n.here,
      sum-passed s.turns (weights f) c.in-Some.joined (u + 1) c.next_at-turn-in-loop-turn.result n.low n.high (λ k p q. done-waiting (f k) (turn-elsewhere env s b c.args.child k (n.skipped k p q))) st,
    )

pub count_child-returns-in_default : goal.count_child-returns-in_default
count_child-returns-in_default t c =
    let env = c.args.env.now in
    let s = c.args.spread in
    let b = c.args.body.now in
    let f = turn_at env s b c.args.child in
    let u = c.loop-turn.turn in
    let inv = c.loop-turn.invariant in
    let lt = c.loop-turn-test.true in
    let here = c.count-here.ensures ∙ ap (λ x. few (waiting x)) (sym (turn-here env s b c.args.child u (inv.1 lt))) in
    sum-full s.turns (weights f) c.loop-turn.whole u c.count-here.result lt inv.2 here c.in_default.ensures ∙ ap few (sym (waiting-turns s.turns f 0))

pub count_child-returns : goal.count_child-returns
count_child-returns t c =
    let s = c.args.spread in
    let f = turn_at c.args.env.now s c.args.body.now c.args.child in
    sum-end s.turns (weights f) c.loop-turn.whole c.loop-turn.turn c.loop-turn-test.false c.loop-turn.invariant.2 ∙ ap few (sym (waiting-turns s.turns f 0))
