use Rattle.std.proofs.Common.{◌≡◌, ◌++◌, drop}
use Rattle.sq_forms.specs.Resolving as spec
use Rattle.sq_forms.proofs.forms.none_in_place.Given as goal

abbrev pub invariant-loop-dims : goal.invariant-loop-dims
invariant-loop-dims l = l.flags ++ spec.none_in_place (drop l._dims-index l.extents) ≡ spec.none_in_place l.extents
