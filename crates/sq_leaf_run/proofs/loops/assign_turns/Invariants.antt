use Rattle.std.proofs.Common.{◌≡◌, [], ◌∷◌, ◌++◌}
use Rattle.std.specs.Int.{int_gap}
use Rattle.sq_leaf.specs.Running as running
use Rattle.sq_leaf_run.proofs.loops.assign_turns.Given as goal

abbrev pub invariant-loop-i : goal.invariant-loop-i
invariant-loop-i l = record {
  ran : running.repeats (int_gap l.i l.end) l.i (λ k. running.assigns l.cell l.op l.code l.fn.frame.views (l.fn.frame.counters ++ k ∷ [])) l.bytes
      ≡ running.repeats (int_gap l.fn.from l.end) l.fn.from (λ k. running.assigns l.cell l.op l.code l.fn.frame.views (l.fn.frame.counters ++ k ∷ [])) l.fn.bytes;
  kept : l.frame ≡ l.fn.frame;
}
