use Rattle.std.proofs.Common.{◌≡◌, ◌++◌, drop}
use Rattle.sq_race.specs.Race as spec
use Rattle.sq_race.proofs.race.all_maps.Given as goal

abbrev pub invariant-loop-v : goal.invariant-loop-v
invariant-loop-v l = l.all ++ spec.all_maps (drop l.v-index l.variants) ≡ spec.all_maps l.variants
