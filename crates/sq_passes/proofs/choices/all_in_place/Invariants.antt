use Rattle.std.proofs.Common.{◌≡◌, ◌++◌, map, drop}
use Rattle.sq_passes.specs.Choices.{in_place}
use Rattle.sq_passes.proofs.choices.all_in_place.Given as goal

abbrev pub invariant-loop-form : goal.invariant-loop-form
invariant-loop-form l = l.out ++ map in_place (drop l.form-index l.forms) ≡ map in_place l.forms
