use Rattle.std.proofs.Common.{◌≡◌, ◌+◌, ◌≤◌, [], ◌∷◌, ◌++◌, length, drop, map}
use Rattle.std.specs.Int.{int_gap}
use Rattle.sq_leaf.specs.Running as running
use Rattle.sq_leaf_run.proofs.+act.Given as goal

abbrev pub invariant-act::act_each-loop-action : goal.invariant-act::act_each-loop-action
invariant-act::act_each-loop-action l = record {
  room : length l.frame.counters + running.depths (drop l.action-index l.list) ≤ 64;
  ran : running.run_actions (drop l.action-index l.list) l.frame.views l.frame.counters l.bytes ≡ running.run_actions l.list l.fn.frame.views l.fn.frame.counters l.fn.bytes;
  kept : l.frame ≡ l.fn.frame;
}

abbrev pub invariant-loops::each_turn-loop-i : goal.invariant-loops::each_turn-loop-i
invariant-loops::each_turn-loop-i l = record {
  ran : running.loop_from (map running.run_action l.body) l.i l.end l.fn.frame.views l.fn.frame.counters l.bytes ≡ running.loop_from (map running.run_action l.body) l.fn.from l.end l.fn.frame.views l.fn.frame.counters l.fn.bytes;
  kept : l.frame ≡ l.fn.frame;
}

abbrev pub invariant-loops::nest-loop-i : goal.invariant-loops::nest-loop-i
invariant-loops::nest-loop-i l = record {
  ran : running.loop_from (map running.run_action l.body) l.i l.end l.fn.frame.views l.fn.frame.counters l.bytes ≡ running.loop_from (map running.run_action l.body) l.fn.from l.end l.fn.frame.views l.fn.frame.counters l.fn.bytes;
  kept : l.frame ≡ l.fn.frame;
}

abbrev pub invariant-loops::in_blocks-loop-i : goal.invariant-loops::in_blocks-loop-i
invariant-loops::in_blocks-loop-i l = record {
  ran : running.repeats (int_gap l.i l.end) l.i (λ k. running.run_actions l.body l.fn.frame.views (l.fn.frame.counters ++ k ∷ [])) l.bytes
      ≡ running.repeats (int_gap l.fn.from l.end) l.fn.from (λ k. running.run_actions l.body l.fn.frame.views (l.fn.frame.counters ++ k ∷ [])) l.fn.bytes;
  kept : l.frame ≡ l.fn.frame;
}

abbrev pub decreases-loops::in_blocks-loop-i : goal.decreases-loops::in_blocks-loop-i
decreases-loops::in_blocks-loop-i l = int_gap l.i l.end
