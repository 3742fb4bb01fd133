use Rattle.std.proofs.Common.{rules, ◌≡◌, ◌∙◌, ◌<ℤ◌, [], ◌∷◌, ◌++◌, ℤ, pos, ◌+ℤ◌, arith, ap, w64, to_z, of_z}
use Rattle.std.proofs.lemmas.Int.{ints, to_z-of_z}
use Rattle.std.specs.Int.{int_gap}
use Rattle.sq_leaf.specs.Running as running
use Rattle.sq_leaf_run.proofs.Turns.{next_turn, last_turn}
use Rattle.sq_leaf_run.proofs.loops.assign_turns.Goals as goal

pub returns-in-Err-clause-ran : goal.returns-in-Err-clause-ran
returns-in-Err-clause-ran c =
    let below : to_z w64 c.loop-i.i-bits <ℤ to_z w64 (of_z w64 c.args.end) = record { lt = search rules } in
    last_turn (running.assigns c.args.cell.now c.args.op c.args.code.now) _ _ _ _ _ _ _ _ below c.loop-i.invariant.kept c.in-Err.ensures.ran c.loop-i.invariant.ran
    ∙ (ap (λ (f : ℤ). running.repeats (int_gap f (to_z w64 (of_z w64 c.args.end))) f (λ k. running.assigns c.args.cell.now c.args.op c.args.code.now c.args.frame.now.views (c.args.frame.now.counters ++ k ∷ [])) c.args.bytes.now) (to_z-of_z w64 c.args.from c.ranges.from)
    ∙ ap (λ (e : ℤ). running.repeats (int_gap c.args.from e) c.args.from (λ k. running.assigns c.args.cell.now c.args.op c.args.code.now c.args.frame.now.views (c.args.frame.now.counters ++ k ∷ [])) c.args.bytes.now) (to_z-of_z w64 c.args.end c.ranges.end))

pub loop-i-preserved : goal.loop-i-preserved
loop-i-preserved c =
    let below : to_z w64 c.loop-i.i-bits <ℤ to_z w64 (of_z w64 c.args.end) = record { lt = search rules } in
    let next : to_z w64 (of_z w64 (to_z w64 c.loop-i.i-bits +ℤ pos 1)) ≡ to_z w64 c.loop-i.i-bits +ℤ pos 1 = omega (arith, ints) in
    record {
      ran = next_turn (running.assigns c.args.cell.now c.args.op c.args.code.now) _ _ _ _ _ _ _ _ below next c.loop-i.invariant.kept c.in-Ok.ensures.ran c.loop-i.invariant.ran;
      kept = c.in-Ok.ensures.kept ∙ c.loop-i.invariant.kept;
    }
