use Rattle.std.proofs.Common.{◌≡◌, ◌+◌, length, sym, ap, ap₂, ◌∙◌, subst}
use Rattle.std.specs.Prelude.{OnOk}
use Rattle.sq_sched.specs.declared.frames.Spread.{Spread}
use Rattle.sq_sched.specs.Words.{env_of, value}
use Rattle.sq_planfile.specs.Left.{then_seq, then_par}
use Rattle.sq_planfile.specs.Written.{seq_of, par_of}
use Rattle.sq_planfile.specs.Words.{left_at, part_at, turn_at, child_at, left_within, loop_of, spread_of}
use Rattle.sq_planfile.proofs.Joins.{turns_begin, turns_next, turns_skip, turns_end, beside_next, beside_end, seq_nothing}
use Rattle.sq_planfile.proofs.Stands.{stand_seq, stand_par, stand_loop, stand_spread, stand_case, stand_within, part_there, part_past, arm_in, turn_here, turn_elsewhere}
use Rattle.sq_planfile.proofs.collect.+collecting.Goals as goal

pub collect-returns-in-Seq : goal.collect-returns-in-Seq
collect-returns-in-Seq t c =
    let env = c.args.env.now in
    let e = ap (λ ts. seq_of (length ts) (part_at env ts) 0) c.as_slice.ensures ∙ sym (ap (left_at env) c.in-Seq.is ∙ stand_seq env c.in-Seq.parts) in
    subst (λ l. OnOk c.collect_parts.result (c.collect_parts.new.out ≡ then_seq c.args.out.now l)) e c.collect_parts.ensures

pub collect-returns-in-Par : goal.collect-returns-in-Par
collect-returns-in-Par t c =
    let env = c.args.env.now in
    let e = ap (λ ts. par_of (length ts) (part_at env ts) 0) c.as_slice-in-Par.ensures ∙ sym (ap (left_at env) c.in-Par.is ∙ stand_par env c.in-Par.parts) in
    subst (λ l. OnOk c.collect_par.result (c.collect_par.new.out ≡ then_seq c.args.out.now l)) e c.collect_par.ensures

pub collect-returns-in-Loop : goal.collect-returns-in-Loop
collect-returns-in-Loop t c =
    let env = c.args.env.now in
    let n = c.in-Loop.count in
    let e = ap (λ s. child_at env s c.get-body.result.now 0) c.loop_of.ensures
    ∙ ap (λ b. child_at env (loop_of env n b) b 0) c.get-body.ensures
    ∙ sym (ap (left_at env) c.in-Loop.is ∙ stand_loop env n c.in-Loop.body) in
    subst (λ l. OnOk c.collect_child.result (c.collect_child.new.out ≡ then_seq c.args.out.now l)) e c.collect_child.ensures

pub collect-returns-in-Spread : goal.collect-returns-in-Spread
collect-returns-in-Spread t c =
    let env = c.args.env.now in
    let n = c.in-Spread.count in
    let r = c.in-Spread.rule in
    let e = ap (λ (s : Spread). par_of s.children (child_at env s c.get-body-in-Spread.result.now) 0) c.spread_of.ensures
    ∙ ap (λ b. par_of (spread_of env n r b).children (child_at env (spread_of env n r b) b) 0) c.get-body-in-Spread.ensures
    ∙ sym (ap (left_at env) c.in-Spread.is ∙ stand_spread env n r c.in-Spread.body) in
    subst (λ l. OnOk c.collect_spread.result (c.collect_spread.new.out ≡ then_seq c.args.out.now l)) e c.collect_spread.ensures

pub collect-returns-in-Case : goal.collect-returns-in-Case
collect-returns-in-Case t c =
    let env = c.args.env.now in
    let z = value env.plan.now c.in-Case.pick (env_of env) in
    let e = ap₂ (λ ts i. part_at env ts i) c.as_slice-in-Case.ensures (c.arm_for-i.ensures ∙ ap (arm_in env z) c.len.ensures)
    ∙ sym (ap (left_at env) c.in-Case.is ∙ stand_case env c.in-Case.pick c.in-Case.arms) in
    subst (λ l. OnOk c.collect_arm.result (c.collect_arm.new.out ≡ then_seq c.args.out.now l)) e c.collect_arm.ensures

pub collect-returns-in-Within : goal.collect-returns-in-Within
collect-returns-in-Within t c =
    let env = c.args.env.now in
    let child = c.in-Within.child in
    let e = ap₂ (λ bs b. left_within env child bs b) c.as_slice-in-Within.ensures c.get.ensures
    ∙ sym (ap (left_at env) c.in-Within.is ∙ stand_within env child c.in-Within.buffers c.in-Within.body) in
    subst (λ l. OnOk c.collect_within.result (c.collect_within.new.out ≡ then_seq c.args.out.now l)) e c.collect_within.ensures

pub collect_child-loop-turn-init : goal.collect_child-loop-turn-init
collect_child-loop-turn-init t c =
    let env = c.args.env.now in
    let s = c.args.spread in
    let b = c.args.body.now in
    let f = turn_at env s b c.args.child in
    let start = c.args.out.now in
    let n = c.next_at-turn.ensures in (
      n.high,
      n.here,
      turns_skip s.turns f start start 0 c.next_at-turn.result n.low n.high (λ k p q. turn_elsewhere env s b c.args.child k (n.skipped k p q)) (turns_begin s.turns f start),
    )

pub collect_child-loop-turn-preserved : goal.collect_child-loop-turn-preserved
collect_child-loop-turn-preserved t c =
    let env = c.args.env.now in
    let s = c.args.spread in
    let b = c.args.body.now in
    let f = turn_at env s b c.args.child in
    let u = c.loop-turn.turn in
    let start = c.args.out.now in
    let so_far = c.loop-turn.out in
    let next = c.collect.new.out in
    let inv = c.loop-turn.invariant in
    let lt = c.loop-turn-test.true in
    let here = c.in_ok-collect.ensures ∙ ap (then_seq so_far) (sym (turn_here env s b c.args.child u (inv.1 lt))) in
    let st = turns_next s.turns f start so_far next u lt inv.2 here in
    let n = c.next_at-turn-in-loop-turn.ensures in (
      n.high,
      n.here,
      turns_skip s.turns f start next (u + 1) c.next_at-turn-in-loop-turn.result n.low n.high (λ k p q. turn_elsewhere env s b c.args.child k (n.skipped k p q)) st,
    )

pub collect_parts-loop-i-preserved : goal.collect_parts-loop-i-preserved
collect_parts-loop-i-preserved t c =
    let env = c.args.env.now in
    turns_next (length c.args.parts.now) (part_at env c.args.parts.now) c.args.out.now c.loop-i.out c.collect_arm.new.out c.loop-i.i c.loop-i-test.true c.loop-i.invariant c.in_ok-collect_arm.ensures

pub collect_parts-returns : goal.collect_parts-returns
collect_parts-returns t c =
    turns_end (length c.args.parts.now) (part_at c.args.env.now c.args.parts.now) c.args.out.now c.loop-i.out c.loop-i.i c.loop-i-test.false c.loop-i.invariant

pub collect_child-returns : goal.collect_child-returns
collect_child-returns t c =
    let s = c.args.spread in
    turns_end s.turns (turn_at c.args.env.now s c.args.body.now c.args.child) c.args.out.now c.loop-turn.out c.loop-turn.turn c.loop-turn-test.false c.loop-turn.invariant.2

pub collect_beside-returns : goal.collect_beside-returns
collect_beside-returns t c =
    beside_end (length c.args.parts.now) (part_at c.args.env.now c.args.parts.now) c.args.out.now c.loop-i.out c.loop-i.i c.loop-i-test.false c.loop-i.invariant

pub collect_children-returns : goal.collect_children-returns
collect_children-returns t c =
    let s = c.args.spread in
    beside_end s.children (child_at c.args.env.now s c.args.body.now) c.args.out.now c.loop-child.out c.loop-child.child c.loop-child-test.false c.loop-child.invariant

pub collect_beside-loop-i-preserved : goal.collect_beside-loop-i-preserved
collect_beside-loop-i-preserved t c =
    let e = c.in_ok-and.ensures ∙ ap (then_par c.loop-i.out) c.in_ok-collect_arm.ensures in
    beside_next (length c.args.parts.now) (part_at c.args.env.now c.args.parts.now) c.args.out.now c.loop-i.out c.and.new.self c.loop-i.i c.loop-i-test.true c.loop-i.invariant e

pub collect_children-loop-child-preserved : goal.collect_children-loop-child-preserved
collect_children-loop-child-preserved t c =
    let s = c.args.spread in
    let e = c.in_ok-and.ensures ∙ ap (then_par c.loop-child.out) c.in_ok-collect_child.ensures in
    beside_next s.children (child_at c.args.env.now s c.args.body.now) c.args.out.now c.loop-child.out c.and.new.self c.loop-child.child c.loop-child-test.true c.loop-child.invariant e

pub collect_arm-returns-then-i-arms : goal.collect_arm-returns-then-i-arms
collect_arm-returns-then-i-arms t c =
    let env = c.args.env.now in
    let e = sym (part_there env c.args.arms.now c.args.i c.index-arms-i.result c.if-i-arms.true c.index-arms-i.is) in
    subst (λ l. OnOk c.collect.result (c.collect.new.out ≡ then_seq c.args.out.now l)) e c.collect.ensures

pub collect_arm-returns-else-i-arms : goal.collect_arm-returns-else-i-arms
collect_arm-returns-else-i-arms t c =
    let env = c.args.env.now in
    sym (ap (then_seq c.args.out.now) (part_past env c.args.arms.now c.args.i c.if-i-arms.false) ∙ seq_nothing c.args.out.now)
