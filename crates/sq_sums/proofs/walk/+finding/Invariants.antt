use Rattle.std.proofs.Common.{◌≡◌, drop}
use Rattle.sq_sums.specs.Tops.{have_scope}
use Rattle.sq_sums.proofs.walk.+finding.Given as goal

abbrev pub invariant-have_scope-loop-t : goal.invariant-have_scope-loop-t
invariant-have_scope-loop-t l = have_scope (drop l.t-index l.ts) ≡ have_scope l.ts
