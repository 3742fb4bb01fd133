use Rattle.std.proofs.Common.{◌≡◌, ◌++◌, drop}
use Rattle.sq_forms.specs.Stmts as spec
use Rattle.sq_forms.proofs.tally.all_tallies.Given as goal

abbrev pub invariant-loop-v : goal.invariant-loop-v
invariant-loop-v l = l.tallies ++ spec.all_tallies (drop l.v-index l.variants) ≡ spec.all_tallies l.variants
