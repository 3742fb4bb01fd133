use Rattle.std.proofs.Common.{◌≡◌, drop}
use Rattle.sq_forms.specs.Resolving as spec
use Rattle.sq_forms.proofs.forms.size_of.Given as goal

abbrev pub invariant-loop-size : goal.invariant-loop-size
invariant-loop-size l = spec.size_of (drop l.size-index l.sizes) l.name ≡ spec.size_of l.sizes l.name
