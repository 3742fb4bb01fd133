use Rattle.std.proofs.Common.{◌≡◌, ◌+◌, ◌-◌, ◌++◌, length, sym, ap, ap₂, ◌∙◌, subst}
use Rattle.std.specs.Prelude.{OnOk}
use Rattle.sq_sched.specs.declared.frames.Spread.{Spread}
use Rattle.sq_sched.specs.Words.{env_of, value, node_here}
use Rattle.sq_sched.specs.Shapes.{par_of, written}
use Rattle.sq_sched.specs.Forms.{made, inside}
use Rattle.sq_walks.specs.Walks.{tree_at, part_at, turn_at, child_at, loop_of, spread_of}
use Rattle.sq_walks.proofs.Trees.{tree-par, tree-loop, tree-spread, tree-case, tree-within, arm_in, turn-here, turn-elsewhere}
use Rattle.sq_plan_check.specs.Walked.{few, numbered, seen_entries}
use Rattle.sq_plan_check.proofs.Counting.{waiting-turns, waiting-lanes}
use Rattle.sq_plan_check.proofs.Walking.{numbered-scope, turn-start, turn-more, turn-passed, beside-start, beside-more, length-seen, after-start, after-more}
use Rattle.sq_plan_check.proofs.walk.+walking.Goals as goal

pub walk-returns-in-Par : goal.walk-returns-in-Par
walk-returns-in-Par t c =
    let env = c.args.env.now in
    let e = ap (λ ts. numbered c.args.second (par_of (length ts) (part_at env ts) 0)) c.as_slice-in-Par.ensures
    ∙ sym (ap (numbered c.args.second) (ap (tree_at env) c.in-Par.is ∙ tree-par env c.in-Par.parts)) in
    subst (λ es. OnOk c.walk_beside.result (seen_entries c.walk_beside.new.entries ≡ seen_entries c.args.entries.now ++ es)) e c.walk_beside.ensures

pub walk-returns-in-Loop : goal.walk-returns-in-Loop
walk-returns-in-Loop t c =
    let env = c.args.env.now in
    let n = c.in-Loop.count in
    let e = ap (λ s. numbered c.args.second (child_at env s c.get-body.result.now 0)) c.loop_of.ensures
    ∙ ap (λ b. numbered c.args.second (child_at env (loop_of env n b) b 0)) c.get-body.ensures
    ∙ sym (ap (numbered c.args.second) (ap (tree_at env) c.in-Loop.is ∙ tree-loop env n c.in-Loop.body)) in
    subst (λ es. OnOk c.walk_child.result (seen_entries c.walk_child.new.entries ≡ seen_entries c.args.entries.now ++ es)) e c.walk_child.ensures

pub walk-returns-in-Spread : goal.walk-returns-in-Spread
walk-returns-in-Spread t c =
    let env = c.args.env.now in
    let n = c.in-Spread.count in
    let r = c.in-Spread.rule in
    let e = ap (λ (s : Spread). numbered c.args.second (par_of s.children (child_at env s c.get-body-in-Spread.result.now) 0)) c.spread_of.ensures
    ∙ ap (λ b. numbered c.args.second (par_of (spread_of env n r b).children (child_at env (spread_of env n r b) b) 0)) c.get-body-in-Spread.ensures
    ∙ sym (ap (numbered c.args.second) (ap (tree_at env) c.in-Spread.is ∙ tree-spread env n r c.in-Spread.body)) in
    subst (λ es. OnOk c.walk_children.result (seen_entries c.walk_children.new.entries ≡ seen_entries c.args.entries.now ++ es)) e c.walk_children.ensures

pub walk-returns-in-Case : goal.walk-returns-in-Case
walk-returns-in-Case t c =
    let env = c.args.env.now in
    let z = value env.plan.now c.in-Case.pick (env_of env) in
    let e = ap₂ (λ ts i. numbered c.args.second (part_at env ts i)) c.as_slice-in-Case.ensures (c.arm_for-i.ensures ∙ ap (arm_in env z) c.len.ensures)
    ∙ sym (ap (numbered c.args.second) (ap (tree_at env) c.in-Case.is ∙ tree-case env c.in-Case.pick c.in-Case.arms)) in
    subst (λ es. OnOk c.walk_arm.result (seen_entries c.walk_arm.new.entries ≡ seen_entries c.args.entries.now ++ es)) e c.walk_arm.ensures

pub walk-returns-in-Within : goal.walk-returns-in-Within
walk-returns-in-Within t c =
    let env = c.args.env.now in
    let child = c.in-Within.child in
    let at = inside env.plan.now child (env_of env) in
    let n = c.args.second in
    let e = ap (λ b. numbered n (written ((made env.plan.now b).form at))) c.get.ensures
    ∙ sym (numbered-scope n (node_here at) c.in-Within.buffers (written ((made env.plan.now c.in-Within.body).form at)))
    ∙ sym (ap (numbered n) (ap (tree_at env) c.in-Within.is ∙ tree-within env child c.in-Within.buffers c.in-Within.body)) in
    subst (λ es. OnOk c.walk_inside.result (seen_entries c.walk_inside.new.entries ≡ seen_entries c.args.entries.now ++ es)) e c.walk_inside.ensures

pub walk_parts-loop-i-init : goal.walk_parts-loop-i-init
walk_parts-loop-i-init t c = turn-start (length c.args.parts.now) c.args.second (part_at c.args.env.now c.args.parts.now) (seen_entries c.args.entries.now)

pub walk_child-loop-turn-init : goal.walk_child-loop-turn-init
walk_child-loop-turn-init t c =
    let env = c.args.env.now in
    let s = c.args.spread in
    let b = c.args.body.now in
    let f = turn_at env s b c.args.child in
    let start = seen_entries c.args.entries.now in
    let n = c.next_at-turn.ensures in (
      n.high,
      n.here,
      turn-passed s.turns c.args.second f start start c.args.second 0 c.next_at-turn.result n.low n.high (λ k p q. turn-elsewhere env s b c.args.child k (n.skipped k p q)) (turn-start s.turns c.args.second f start),
    )

pub walk_beside-loop-i-init : goal.walk_beside-loop-i-init
walk_beside-loop-i-init t c =
    let n = length c.args.parts.now in
    let f = part_at c.args.env.now c.args.parts.now in
    (after-start n f c.in-Some.after (c.in-Some.ensures ∙ ap few (waiting-turns n f 0)), beside-start n c.args.second f (seen_entries c.args.entries.now))

pub walk_children-loop-child-init : goal.walk_children-loop-child-init
walk_children-loop-child-init t c =
    let n = c.args.spread.children in
    let f = child_at c.args.env.now c.args.spread c.args.body.now in
    (after-start n f c.in-Some.after (c.in-Some.ensures ∙ ap few (waiting-lanes n f 0)), beside-start n c.args.second f (seen_entries c.args.entries.now))

pub walk_parts-loop-i-preserved : goal.walk_parts-loop-i-preserved
walk_parts-loop-i-preserved t c =
    let f = part_at c.args.env.now c.args.parts.now in
    let m = c.in_ok-next.ensures ∙ ap₂ (λ x y. c.loop-i.next + (x - y)) (c.len.ensures ∙ sym (length-seen c.walk_arm.new.entries)) (c.len-from.ensures ∙ sym (length-seen c.loop-i.entries)) in
    turn-more (length c.args.parts.now) c.args.second f (seen_entries c.args.entries.now) (seen_entries c.loop-i.entries) (seen_entries c.walk_arm.new.entries) c.loop-i.next c.in_ok-next.next c.loop-i.i c.loop-i-test.true c.loop-i.invariant c.in_ok-walk_arm.ensures m

pub walk_child-loop-turn-preserved : goal.walk_child-loop-turn-preserved
walk_child-loop-turn-preserved t c =
    let env = c.args.env.now in
    let s = c.args.spread in
    let b = c.args.body.now in
    let f = turn_at env s b c.args.child in
    let u = c.loop-turn.turn in
    let start = seen_entries c.args.entries.now in
    let so_far = seen_entries c.loop-turn.entries in
    let more = seen_entries c.walk.new.entries in
    let inv = c.loop-turn.invariant in
    let lt = c.loop-turn-test.true in
    let here = c.in_ok-walk.ensures ∙ ap (λ x. so_far ++ numbered c.loop-turn.next x) (sym (turn-here env s b c.args.child u (inv.1 lt))) in
    let m = c.in_ok-next.ensures ∙ ap₂ (λ x y. c.loop-turn.next + (x - y)) (c.len.ensures ∙ sym (length-seen c.walk.new.entries)) (c.len-from.ensures ∙ sym (length-seen c.loop-turn.entries)) in
    let st = turn-more s.turns c.args.second f start so_far more c.loop-turn.next c.in_ok-next.next u lt inv.2 here m in
    let n = c.next_at-turn-in-loop-turn.ensures in (
      n.high,
      n.here,
      turn-passed s.turns c.args.second f start more c.in_ok-next.next (u + 1) c.next_at-turn-in-loop-turn.result n.low n.high (λ k p q. turn-elsewhere env s b c.args.child k (n.skipped k p q)) st,
    )

pub walk_beside-loop-i-preserved : goal.walk_beside-loop-i-preserved
walk_beside-loop-i-preserved t c =
    let n = length c.args.parts.now in
    let f = part_at c.args.env.now c.args.parts.now in
    let i = c.loop-i.i in
    let after = c.loop-i.after in
    let here = c.in-Some-count_arm.here in
    let lt = c.loop-i-test.true in
    let inv = c.loop-i.invariant in
    let r = after-more n f after i here lt inv.0 c.in-Some-count_arm.ensures in
    (r.1, beside-more n c.args.second f (seen_entries c.args.entries.now) (seen_entries c.loop-i.entries) (seen_entries c.walk_arm.new.entries) i c.in_ok-number.number (after - here) lt inv.1 r.1 c.in_ok-number.ensures c.in_ok-walk_arm.ensures)

pub walk_children-loop-child-preserved : goal.walk_children-loop-child-preserved
walk_children-loop-child-preserved t c =
    let n = c.args.spread.children in
    let f = child_at c.args.env.now c.args.spread c.args.body.now in
    let i = c.loop-child.child in
    let after = c.loop-child.after in
    let here = c.in-Some-count_child.here in
    let lt = c.loop-child-test.true in
    let inv = c.loop-child.invariant in
    let r = after-more n f after i here lt inv.0 c.in-Some-count_child.ensures in
    (r.1, beside-more n c.args.second f (seen_entries c.args.entries.now) (seen_entries c.loop-child.entries) (seen_entries c.walk_child.new.entries) i c.in_ok-number.number (after - here) lt inv.1 r.1 c.in_ok-number.ensures c.in_ok-walk_child.ensures)
