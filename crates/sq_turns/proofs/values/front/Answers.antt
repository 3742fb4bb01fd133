use Rattle.std.proofs.Common.{rules, ◌≡◌, ◌+◌, ◌∷◌, ℕ, drop, ap, arith}
use Rattle.sq_deeds.specs.Deeds.{AreKept}
use Rattle.sq_turns.proofs.Paths.{list_at, kept_then, front_more}
use Rattle.sq_turns.proofs.values.front.Goals as goal

pub loop-step-preserved : goal.loop-step-preserved
loop-step-preserved c =
    let is : drop c.loop-step.step-index c.args.list.now ≡ c.step-item.result ∷ drop (c.loop-step.step-index + 1) c.args.list.now =
    list_at c.args.list.now c.loop-step.step-index c.step-item.result (search rules) c.step-item.is in
    let read : AreKept c.args.next c.args.columns.now c.line.new.columns =
    kept_then c.args.next c.args.next (c.args.next + 256) c.args.columns.now c.loop-step.columns c.line.new.columns (omega arith) (omega arith) c.loop-step.invariant.kept c.in-Some.ensures.kept in
    record {
      follows = front_more c.args.setting.now c.step-item.result (drop (c.loop-step.step-index + 1) c.args.list.now) (drop c.loop-step.step-index c.args.list.now)
          c.args.list.now c.args.next c.loop-step.x c.in-Some.y c.in-Some-joined.z c.args.first (drop c.args.next c.args.columns.now) c.loop-step.columns c.line.new.columns c.joined.new.columns
          is c.in-Some.ensures.kept c.in-Some.ensures.gives c.in-Some-joined.ensures.gives c.in-Some-joined.ensures.divides c.loop-step.invariant.follows;
      count = ap (λ (n : ℕ). n + 1) c.loop-step.invariant.count;
      kept = kept_then c.args.next c.args.next c.args.next c.args.columns.now c.line.new.columns c.joined.new.columns (omega arith) (omega arith) read c.in-Some-joined.ensures.kept;
    }
