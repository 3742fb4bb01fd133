use Rattle.std.proofs.Common.{rules, ◌≡◌, ◌<◌, Some, slice_get, slice_set}
use Rattle.sq_planevents.proofs.Ordering.{swapped_to}
use Rattle.sq_planevents.proofs.twice.settle.Goals as goal

pub returns : goal.returns
returns c =
    let one : slice_get c.args.steps.now c.args.i ≡ Some c.step_at-first.result = search rules in
    let other : slice_get c.args.steps.now c.args.j ≡ Some c.step_at-second.result = search rules in
    let some : (c.step_at-second.result.count ≡ 0 → ⊥) = search rules in
    let less : c.step_at-second.result.count < c.step_at-first.result.count = search rules in
    let first : c.set.new.self ≡ slice_set c.args.steps.now c.args.i c.step_at-second.result = search rules in
    let second : c.set-2.new.self ≡ slice_set c.set.new.self c.args.j c.step_at-first.result = search rules in
    swapped_to c.args.steps.now c.set.new.self c.set-2.new.self c.args.i c.args.j c.step_at-first.result c.step_at-second.result c.requires.next one other some less first second
