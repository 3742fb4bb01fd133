use Rattle.std.proofs.Common.{◌≡◌, ◌-◌, []}
use Rattle.sq_forms.specs.Steps.{most_forms}
use Rattle.sq_forms.specs.Resolving as spec
use Rattle.sq_forms.proofs.forms.resolve_forms.Given as goal

abbrev pub invariant-loop-k : goal.invariant-loop-k
invariant-loop-k l = record {
  walked : spec.resolution l.variants.list.now l.mapping ≡ spec.walk_from l.variants.list.now l.mapping.instances (most_forms - l.k) l.k (spec.resolving_of l.r);
  uses : l.r.walk.uses ≡ [];
}
