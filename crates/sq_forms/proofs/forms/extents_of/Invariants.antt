use Rattle.std.proofs.Common.{◌≡◌, ◌++◌, drop, map}
use Rattle.sq_forms.specs.Resolving as spec
use Rattle.sq_forms.proofs.forms.extents_of.Given as goal

abbrev pub invariant-loop-extent : goal.invariant-loop-extent
invariant-loop-extent l = l.numbers ++ map (spec.extent_of l.sizes) (drop l.extent-index l.extents) ≡ map (spec.extent_of l.sizes) l.extents
