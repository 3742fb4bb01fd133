use Rattle.std.proofs.Common.{arith, rules, ◌<◌, length, ◌∙◌}
use Rattle.sq_arrays.proofs.Passing.{part_length}
use Rattle.sq_arrays.proofs.Windows.{stands_later, run_step, run_ends}
use Rattle.sq_arrays.specs.Window.{held}
use Rattle.sq_arrays.proofs.runs.pass.Goals as goal

pub returns-then-window-clause-stands : goal.returns-then-window-clause-stands
returns-then-window-clause-stands g c = stands_later _ _ c.look.new.window c.pass_held.new.window c.in-Ok-Bytes.ensures.stands c.pass_held.ensures.at c.pass_held.ensures.passed

pub returns-then-window-clause-bytes : goal.returns-then-window-clause-bytes
returns-then-window-clause-bytes g c = λ _. omega (arith, part_length c.pass_held.new.window.bytes c.pass_held.new.window.spot.start c.pass_held.new.window.spot.end (omega (arith, c.pass_held.ensures.size)))

pub returns-then-window-clause-passed : goal.returns-then-window-clause-passed
returns-then-window-clause-passed g c = λ bytes t.
    let some : 0 < length (held c.pass_held.new.window) = omega (arith, part_length c.pass_held.new.window.bytes c.pass_held.new.window.spot.start c.pass_held.new.window.spot.end (omega (arith, c.pass_held.ensures.size))) in
    run_ends _ _ _ _ c.pass_held.new.window bytes _ t (c.in-Ok-Bytes.ensures.content ∙ c.windows.invariant.content)
    (stands_later _ _ c.look.new.window c.pass_held.new.window c.in-Ok-Bytes.ensures.stands c.pass_held.ensures.at c.pass_held.ensures.passed) some c.pass_held.ensures.stops
    (run_step _ _ _ c.args.window.now c.windows.window c.look.new.window c.pass_held.new.window bytes t (c.in-Ok-Bytes.ensures.content ∙ c.windows.invariant.content) c.in-Ok-Bytes.ensures.at c.in-Ok-Bytes.ensures.place c.in-Ok-Bytes.ensures.stands
    c.pass_held.ensures.at (c.windows.invariant.passed bytes t) c.pass_held.ensures.passed)

pub windows-preserved : goal.windows-preserved
windows-preserved g c = record {
  content = search rules;
  stands = stands_later _ _ c.look.new.window c.pass_held.new.window c.in-Ok-Bytes.ensures.stands c.pass_held.ensures.at c.pass_held.ensures.passed;
  passed = λ bytes t. run_step _ _ _ c.args.window.now c.windows.window c.look.new.window c.pass_held.new.window bytes t (c.in-Ok-Bytes.ensures.content ∙ c.windows.invariant.content) c.in-Ok-Bytes.ensures.at c.in-Ok-Bytes.ensures.place c.in-Ok-Bytes.ensures.stands
      c.pass_held.ensures.at (c.windows.invariant.passed bytes t) c.pass_held.ensures.passed;
  faults = search rules;
  misses = search rules;
}
