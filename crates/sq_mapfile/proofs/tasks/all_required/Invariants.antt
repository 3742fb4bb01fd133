use Rattle.std.proofs.Common.{◌≡◌, ◌++◌, drop, map}
use Rattle.sq_mapping.specs.Required.{required_by}
use Rattle.sq_mapfile.proofs.tasks.all_required.Given as goal

abbrev pub invariant-loop-v : goal.invariant-loop-v
invariant-loop-v l = l.required ++ map required_by (drop l.v-index l.variants) ≡ map required_by l.variants
