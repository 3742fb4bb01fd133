use Rattle.std.proofs.Common.{◌≡◌, drop}
use Rattle.std.specs.List.{flat_map}
use Rattle.sq_planfile.specs.Written.{tunables_in, firsts}
use Rattle.sq_planfile.proofs.heads.put_tunables.Given as goal

abbrev pub invariant-loop-decl : goal.invariant-loop-decl
invariant-loop-decl l = firsts l.names (flat_map (tunables_in) (drop l.decl-index l.decls)) ≡ firsts l.fn.names (flat_map (tunables_in) l.decls)
