use Rattle.std.proofs.Common.{◌≡◌, ◌++◌, drop}
use Rattle.sq_forms.specs.Calls as spec
use Rattle.sq_forms.proofs.call.form_of.Given as goal

abbrev pub invariant-loop-x : goal.invariant-loop-x
invariant-loop-x l = l.extents ++ spec.extents_of (drop l.x-index l.list) ≡ spec.extents_of l.list
