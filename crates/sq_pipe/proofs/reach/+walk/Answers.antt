use Rattle.std.proofs.Common.{◌≡◌, ◌+◌, List, ℕ, map, refl, sym, ap, ◌∙◌, subst, rules}
use Rattle.sq_spec.specs.declared.statement.Statement.{Statement}
use Rattle.sq_pipe.specs.Runs.{landing, turn_lands, noted}
use Rattle.sq_pipe.proofs.Reached.{lands_map, next_turn, next_statement}
use Rattle.sq_pipe.proofs.reach.+walk.Goals as goal

pub note_one-returns-in_ok-note_turns-in-Map : goal.note_one-returns-in_ok-note_turns-in-Map
note_one-returns-in_ok-note_turns-in-Map t c =
    let rule = c.args.node.rule in
    let children = c.args.node.children in
    subst (λ (xs : List (ℕ × ℕ)). c.note_turns.new.out ≡ noted children xs c.args.out.now)
    (sym (ap (λ (x : Statement). (landing rule children x).lands c.args.inside c.args.child c.args.k) c.in-Map.is
    ∙ lands_map rule children c.in-Map.place c.in-Map.kind c.in-Map.counts c.in-Map.starts c.in-Map.body c.args.inside
    c.args.child c.args.k))
    (search rules)

pub note_turns-loop-t-preserved : goal.note_turns-loop-t-preserved
note_turns-loop-t-preserved t c =
    let node = c.args.node in
    let turns = c.args.turns in
    next_turn node.children (turn_lands node.rule node.children (map (landing node.rule node.children) c.args.body.now)
    turns.inside turns.spread turns.count turns.start turns.child) turns.count c.loop-t.t (c.loop-t.t + 1) c.loop-t.out
    c.note_turn.new.out _ c.loop-t-test.true refl c.in_ok-note_turn.ensures c.loop-t.invariant

pub note_all-loop-x-preserved : goal.note_all-loop-x-preserved
note_all-loop-x-preserved t c =
    next_statement c.args.node.rule c.args.node.children c.args.inside c.args.child c.args.k c.args.list.now
    c.loop-x.x-index c.x-item.result c.loop-x.out c.note_one.new.out _ c.loop-x-test.true c.x-item.is
    c.in_ok-note_one.ensures c.loop-x.invariant
