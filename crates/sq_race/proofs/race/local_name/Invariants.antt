use Rattle.std.proofs.Common.{◌≡◌, drop, slice_get}
use Rattle.sq_race.specs.Race as spec
use Rattle.sq_race.proofs.race.local_name.Given as goal

abbrev pub invariant-loop-decl : goal.invariant-loop-decl
invariant-loop-decl l = slice_get (spec.local_names (drop l.decl-index l.decls)) l.left ≡ slice_get (spec.local_names l.decls) l.number
