use Rattle.std.proofs.Common.{◌≡◌, [], drop}
use Rattle.sq_mapfile.specs.Gathering as spec
use Rattle.sq_mapfile.proofs.required.tunables.Given as goal

abbrev pub invariant-loop-decl : goal.invariant-loop-decl
invariant-loop-decl l = spec.decls_tunables (drop l.decl-index l.decls) l.known.entries ≡ spec.decls_tunables l.decls []
