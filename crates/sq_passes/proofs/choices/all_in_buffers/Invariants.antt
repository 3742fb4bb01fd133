use Rattle.std.proofs.Common.{◌≡◌, ◌++◌, map, drop}
use Rattle.sq_passes.specs.Choices.{in_buffers}
use Rattle.sq_passes.proofs.choices.all_in_buffers.Given as goal

abbrev pub invariant-loop-form : goal.invariant-loop-form
invariant-loop-form l = l.out ++ map in_buffers (drop l.form-index l.forms) ≡ map in_buffers l.forms
