use Rattle.std.proofs.Common.{◌≡◌, drop}
use Rattle.std.specs.List.{flat_map}
use Rattle.sq_planfile.specs.Written.{tunables_in}
use Rattle.sq_planheads.specs.Leaves.{with_names}
use Rattle.sq_planheads.proofs.names.put_tunables.Given as goal

abbrev pub invariant-loop-decl : goal.invariant-loop-decl
invariant-loop-decl l = with_names l.table (flat_map tunables_in (drop l.decl-index l.decls)) ≡ with_names l.fn.table (flat_map tunables_in l.decls)
