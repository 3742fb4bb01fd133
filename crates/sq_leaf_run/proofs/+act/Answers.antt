use Rattle.std.proofs.Common.{rules, ◌≡◌, ◌∙◌, ◌<ℤ◌, ℤ, pos, [], ◌∷◌, ◌++◌, ◌+ℤ◌, map, arith, ap, w64, to_z, of_z}
use Rattle.std.specs.Int.{int_gap}
use Rattle.std.proofs.lemmas.Int.{ints, to_z-of_z}
use Rattle.sq_leaf.specs.Running as running
use Rattle.sq_leaf_run.proofs.Turns.{next_turn, last_turn, next_block, last_block}
use Rattle.sq_leaf_run.proofs.+act.Goals as goal

pub loops::each_turn-returns-in-Err-clause-ran : goal.loops::each_turn-returns-in-Err-clause-ran
loops::each_turn-returns-in-Err-clause-ran t c =
    let below : to_z w64 c.loop-i.i-bits <ℤ to_z w64 (of_z w64 c.args.end) = record { lt = search rules } in
    last_turn (running.run_actions c.args.body.now) _ _ _ _ _ _ _ _ below c.loop-i.invariant.kept c.in-Err.ensures.ran c.loop-i.invariant.ran
    ∙ (ap (λ (f : ℤ). running.loop_from (map running.run_action c.args.body.now) f (to_z w64 (of_z w64 c.args.end)) c.args.frame.now.views c.args.frame.now.counters c.args.bytes.now) (to_z-of_z w64 c.args.from c.ranges.from)
    ∙ ap (λ (e : ℤ). running.loop_from (map running.run_action c.args.body.now) c.args.from e c.args.frame.now.views c.args.frame.now.counters c.args.bytes.now) (to_z-of_z w64 c.args.end c.ranges.end))

pub loops::each_turn-loop-i-preserved : goal.loops::each_turn-loop-i-preserved
loops::each_turn-loop-i-preserved t c =
    let below : to_z w64 c.loop-i.i-bits <ℤ to_z w64 (of_z w64 c.args.end) = record { lt = search rules } in
    let next : to_z w64 (of_z w64 (to_z w64 c.loop-i.i-bits +ℤ pos 1)) ≡ to_z w64 c.loop-i.i-bits +ℤ pos 1 = omega (arith, ints) in
    record {
      ran = next_turn (running.run_actions c.args.body.now) _ _ _ _ _ _ _ _ below next c.loop-i.invariant.kept c.in-Ok.ensures.ran c.loop-i.invariant.ran;
      kept = c.in-Ok.ensures.kept ∙ c.loop-i.invariant.kept;
    }

pub loops::nest-returns-in-Err-clause-ran : goal.loops::nest-returns-in-Err-clause-ran
loops::nest-returns-in-Err-clause-ran t c =
    let below : to_z w64 c.loop-i.i-bits <ℤ to_z w64 (of_z w64 c.args.end) = record { lt = search rules } in
    last_turn (running.run_actions c.args.body.now) _ _ _ _ _ _ _ _ below c.loop-i.invariant.kept c.in-Err.ensures.ran c.loop-i.invariant.ran
    ∙ (ap (λ (f : ℤ). running.loop_from (map running.run_action c.args.body.now) f (to_z w64 (of_z w64 c.args.end)) c.args.frame.now.views c.args.frame.now.counters c.args.bytes.now) (to_z-of_z w64 c.args.from c.ranges.from)
    ∙ ap (λ (e : ℤ). running.loop_from (map running.run_action c.args.body.now) c.args.from e c.args.frame.now.views c.args.frame.now.counters c.args.bytes.now) (to_z-of_z w64 c.args.end c.ranges.end))

pub loops::nest-loop-i-preserved : goal.loops::nest-loop-i-preserved
loops::nest-loop-i-preserved t c =
    let below : to_z w64 c.loop-i.i-bits <ℤ to_z w64 (of_z w64 c.args.end) = record { lt = search rules } in
    let next : to_z w64 (of_z w64 (to_z w64 c.loop-i.i-bits +ℤ pos 1)) ≡ to_z w64 c.loop-i.i-bits +ℤ pos 1 = omega (arith, ints) in
    record {
      ran = next_turn (running.run_actions c.args.body.now) _ _ _ _ _ _ _ _ below next c.loop-i.invariant.kept c.in-Ok.ensures.ran c.loop-i.invariant.ran;
      kept = c.in-Ok.ensures.kept ∙ c.loop-i.invariant.kept;
    }

pub loops::in_blocks-returns-in-Err-clause-ran : goal.loops::in_blocks-returns-in-Err-clause-ran
loops::in_blocks-returns-in-Err-clause-ran t c =
    last_block (running.run_actions c.args.body.now) _ _ _ _ _ _ _ _ _ c.next_count-count.ensures.within c.loop-i.invariant.kept c.in-Err.ensures.ran c.loop-i.invariant.ran
    ∙ (ap (λ (f : ℤ). running.repeats (int_gap f (to_z w64 (of_z w64 c.args.end))) f (λ k. running.run_actions c.args.body.now c.args.frame.now.views (c.args.frame.now.counters ++ k ∷ [])) c.args.bytes.now) (to_z-of_z w64 c.args.from c.ranges.from)
    ∙ ap (λ (e : ℤ). running.repeats (int_gap c.args.from e) c.args.from (λ k. running.run_actions c.args.body.now c.args.frame.now.views (c.args.frame.now.counters ++ k ∷ [])) c.args.bytes.now) (to_z-of_z w64 c.args.end c.ranges.end))

pub loops::in_blocks-loop-i-preserved : goal.loops::in_blocks-loop-i-preserved
loops::in_blocks-loop-i-preserved t c =
    let few = c.next_count-count.ensures.few in
    let within = c.next_count-count.ensures.within in
    let next : to_z w64 (of_z w64 (to_z w64 c.loop-i.i-bits +ℤ to_z w64 c.next_count-count.result)) ≡ to_z w64 c.loop-i.i-bits +ℤ pos c.next_count-count.result = omega (arith, ints, few, within) in
    record {
      ran = next_block (running.run_actions c.args.body.now) _ _ _ _ _ _ _ _ _ within c.loop-i.invariant.kept c.in-Ok.ensures.ran c.loop-i.invariant.ran next;
      kept = c.in-Ok.ensures.kept ∙ c.loop-i.invariant.kept;
    }
