use Rattle.std.proofs.Common.{◌≡◌, ◌++◌, drop}
use Rattle.sq_forms.specs.Calls as spec
use Rattle.sq_forms.proofs.call.push_extents.Given as goal

abbrev pub invariant-loop-dims : goal.invariant-loop-dims
invariant-loop-dims l = l.numbers ++ spec.key_extents (drop l.dims-index l.extents) ≡ l.fn.numbers ++ spec.key_extents l.extents
