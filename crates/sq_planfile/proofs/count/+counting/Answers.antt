use Rattle.std.proofs.Common.{◌+◌, length, sym, ap, ap₂, ◌∙◌}
use Rattle.sq_sched.specs.declared.frames.Spread.{Spread}
use Rattle.sq_sched.specs.Words.{env_of, value}
use Rattle.sq_planfile.specs.Written.{seq_of, par_of}
use Rattle.sq_planfile.specs.Words.{left_at, part_at, turn_at, child_at, left_in, loop_of, spread_of, number, few}
use Rattle.sq_planfile.proofs.Joins.{passed}
use Rattle.sq_planfile.proofs.Numbers.{number_rows, number_event, number_within, adds_begin, adds_next, adds_full, adds_end, adds_skip}
use Rattle.sq_planfile.proofs.Stands.{stand_skip, stand_act, stand_seq, stand_par, stand_loop, stand_spread, stand_case, stand_within, part_there, part_past, arm_in, turn_here, turn_elsewhere}
use Rattle.sq_planfile.proofs.count.+counting.Goals as goal

pub count-returns-in-Skip : goal.count-returns-in-Skip
count-returns-in-Skip t c = sym (ap (λ l. few (number l)) (ap (left_at c.args.env.now) c.in-Skip.is ∙ stand_skip c.args.env.now))

pub count-returns-in-Act : goal.count-returns-in-Act
count-returns-in-Act t c =
    let env = c.args.env.now in
    let e = ap number (ap (left_at env) c.in-Act.is ∙ stand_act env _) ∙ number_event env _ in
    sym (ap few e)

pub count-returns-in-Seq : goal.count-returns-in-Seq
count-returns-in-Seq t c =
    let env = c.args.env.now in
    c.count_parts.ensures ∙ ap (λ ts. few (number (seq_of (length ts) (part_at env ts) 0))) c.as_slice.ensures
    ∙ sym (ap (λ l. few (number l)) (ap (left_at env) c.in-Seq.is ∙ stand_seq env c.in-Seq.parts))

pub count-returns-in-Par : goal.count-returns-in-Par
count-returns-in-Par t c =
    let env = c.args.env.now in
    let ts = c.in-Par.parts in
    c.count_parts-in-Par.ensures ∙ ap (λ ts. few (number (seq_of (length ts) (part_at env ts) 0))) c.as_slice-in-Par.ensures
    ∙ sym (ap few (ap number (ap (left_at env) c.in-Par.is ∙ stand_par env ts) ∙ number_rows (length ts) (part_at env ts) 0))

pub count-returns-in-Loop : goal.count-returns-in-Loop
count-returns-in-Loop t c =
    let env = c.args.env.now in
    let n = c.in-Loop.count in
    c.count_child.ensures ∙ ap (λ s. few (number (child_at env s c.get-body.result.now 0))) c.loop_of.ensures
    ∙ ap (λ b. few (number (child_at env (loop_of env n b) b 0))) c.get-body.ensures
    ∙ sym (ap (λ l. few (number l)) (ap (left_at env) c.in-Loop.is ∙ stand_loop env n c.in-Loop.body))

pub count-returns-in-Spread : goal.count-returns-in-Spread
count-returns-in-Spread t c =
    let env = c.args.env.now in
    let n = c.in-Spread.count in
    let r = c.in-Spread.rule in
    c.count_children.ensures
    ∙ ap (λ (s : Spread). few (number (par_of s.children (child_at env s c.get-body-in-Spread.result.now) 0))) c.spread_of.ensures
    ∙ ap (λ b. few (number (par_of (spread_of env n r b).children (child_at env (spread_of env n r b) b) 0))) c.get-body-in-Spread.ensures
    ∙ sym (ap (λ l. few (number l)) (ap (left_at env) c.in-Spread.is ∙ stand_spread env n r c.in-Spread.body))

pub count-returns-in-Case : goal.count-returns-in-Case
count-returns-in-Case t c =
    let env = c.args.env.now in
    let z = value env.plan.now c.in-Case.pick (env_of env) in
    c.count_arm.ensures
    ∙ ap₂ (λ ts i. few (number (part_at env ts i))) c.as_slice-in-Case.ensures (c.arm_for-i.ensures ∙ ap (arm_in env z) c.len.ensures)
    ∙ sym (ap (λ l. few (number l)) (ap (left_at env) c.in-Case.is ∙ stand_case env c.in-Case.pick c.in-Case.arms))

pub count-returns-in-Within : goal.count-returns-in-Within
count-returns-in-Within t c =
    let env = c.args.env.now in
    let child = c.in-Within.child in
    c.count_inside.ensures ∙ ap (λ b. few (number (left_in env child b))) c.get.ensures
    ∙ sym (ap few (ap number (ap (left_at env) c.in-Within.is ∙ stand_within env child c.in-Within.buffers c.in-Within.body) ∙ number_within env child c.in-Within.buffers c.in-Within.body))

pub count_arm-returns-then-i-arms : goal.count_arm-returns-then-i-arms
count_arm-returns-then-i-arms t c =
    let env = c.args.env.now in
    c.count.ensures ∙ ap (λ l. few (number l)) (sym (part_there env c.args.arms.now c.args.i c.index-arms-i.result c.if-i-arms.true c.index-arms-i.is))

pub count_arm-returns-else-i-arms : goal.count_arm-returns-else-i-arms
count_arm-returns-else-i-arms t c = sym (ap (λ l. few (number l)) (part_past c.args.env.now c.args.arms.now c.args.i c.if-i-arms.false))

pub count_parts-loop-i-preserved : goal.count_parts-loop-i-preserved
count_parts-loop-i-preserved t c =
    let env = c.args.env.now in
    adds_next (length c.args.parts.now) (part_at env c.args.parts.now) c.loop-i.whole c.count_arm.result c.together-whole.result c.loop-i.i c.loop-i-test.true c.loop-i.invariant c.count_arm.ensures c.together-whole.ensures c.if-whole-gt-MOST_EVENTS.false

pub count_parts-returns-then-whole-gt-MOST_EVENTS : goal.count_parts-returns-then-whole-gt-MOST_EVENTS
count_parts-returns-then-whole-gt-MOST_EVENTS t c =
    let env = c.args.env.now in
    adds_full (length c.args.parts.now) (part_at env c.args.parts.now) c.loop-i.whole c.count_arm.result c.together-whole.result c.loop-i.i c.loop-i-test.true c.loop-i.invariant c.count_arm.ensures c.together-whole.ensures c.if-whole-gt-MOST_EVENTS.true

pub count_parts-returns : goal.count_parts-returns
count_parts-returns t c = adds_end (length c.args.parts.now) (part_at c.args.env.now c.args.parts.now) c.loop-i.whole c.loop-i.i c.loop-i-test.false c.loop-i.invariant

pub count_children-loop-child-preserved : goal.count_children-loop-child-preserved
count_children-loop-child-preserved t c =
    let s = c.args.spread in
    adds_next s.children (child_at c.args.env.now s c.args.body.now) c.loop-child.whole c.count_child.result c.together-whole.result c.loop-child.child c.loop-child-test.true c.loop-child.invariant c.count_child.ensures c.together-whole.ensures c.if-whole-gt-MOST_EVENTS.false

pub count_children-returns-then-whole-gt-MOST_EVENTS : goal.count_children-returns-then-whole-gt-MOST_EVENTS
count_children-returns-then-whole-gt-MOST_EVENTS t c =
    let s = c.args.spread in
    let f = child_at c.args.env.now s c.args.body.now in
    adds_full s.children f c.loop-child.whole c.count_child.result c.together-whole.result c.loop-child.child c.loop-child-test.true c.loop-child.invariant c.count_child.ensures c.together-whole.ensures c.if-whole-gt-MOST_EVENTS.true
    ∙ sym (ap few (number_rows s.children f 0))

pub count_children-returns : goal.count_children-returns
count_children-returns t c =
    let s = c.args.spread in
    let f = child_at c.args.env.now s c.args.body.now in
    adds_end s.children f c.loop-child.whole c.loop-child.child c.loop-child-test.false c.loop-child.invariant ∙ sym (ap few (number_rows s.children f 0))

pub count_child-loop-turn-init : goal.count_child-loop-turn-init
count_child-loop-turn-init t c =
    let env = c.args.env.now in
    let s = c.args.spread in
    let b = c.args.body.now in
    let f = turn_at env s b c.args.child in
    let n = c.next_at-turn.ensures in (
      n.high,
      n.here,
      adds_skip s.turns f 0 0 c.next_at-turn.result (passed s.turns f 0 c.next_at-turn.result n.low n.high (λ k p q. turn_elsewhere env s b c.args.child k (n.skipped k p q))) (adds_begin s.turns f),
    )

pub count_child-loop-turn-preserved : goal.count_child-loop-turn-preserved
count_child-loop-turn-preserved t c =
    let env = c.args.env.now in
    let s = c.args.spread in
    let b = c.args.body.now in
    let f = turn_at env s b c.args.child in
    let u = c.loop-turn.turn in
    let inv = c.loop-turn.invariant in
    let lt = c.loop-turn-test.true in
    let here = c.count.ensures ∙ ap (λ l. few (number l)) (sym (turn_here env s b c.args.child u (inv.1 lt))) in
    let st = adds_next s.turns f c.loop-turn.whole c.count.result c.together-whole.result u lt inv.2 here c.together-whole.ensures c.if-whole-gt-MOST_EVENTS.false in
    let n = c.next_at-turn-in-loop-turn.ensures in (
      n.high,
      n.here,
      adds_skip s.turns f c.together-whole.result (u + 1) c.next_at-turn-in-loop-turn.result (passed s.turns f (u + 1) c.next_at-turn-in-loop-turn.result n.low n.high (λ k p q. turn_elsewhere env s b c.args.child k (n.skipped k p q))) st,
    )

pub count_child-returns-then-whole-gt-MOST_EVENTS : goal.count_child-returns-then-whole-gt-MOST_EVENTS
count_child-returns-then-whole-gt-MOST_EVENTS t c =
    let env = c.args.env.now in
    let s = c.args.spread in
    let b = c.args.body.now in
    let u = c.loop-turn.turn in
    let inv = c.loop-turn.invariant in
    let lt = c.loop-turn-test.true in
    let here = c.count.ensures ∙ ap (λ l. few (number l)) (sym (turn_here env s b c.args.child u (inv.1 lt))) in
    adds_full s.turns (turn_at env s b c.args.child) c.loop-turn.whole c.count.result c.together-whole.result u lt inv.2 here c.together-whole.ensures c.if-whole-gt-MOST_EVENTS.true

pub count_child-returns : goal.count_child-returns
count_child-returns t c =
    let s = c.args.spread in
    adds_end s.turns (turn_at c.args.env.now s c.args.body.now c.args.child) c.loop-turn.whole c.loop-turn.turn c.loop-turn-test.false c.loop-turn.invariant.2
