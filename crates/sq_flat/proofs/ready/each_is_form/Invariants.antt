use Rattle.std.proofs.Common.{◌≡◌, drop}
use Rattle.sq_flat.specs.Checked as spec
use Rattle.sq_flat.proofs.ready.each_is_form.Given as goal

abbrev pub invariant-loop-f : goal.invariant-loop-f
invariant-loop-f l = spec.are_forms l.forms (drop l.f-index l.forms) ≡ spec.are_forms l.forms l.forms
