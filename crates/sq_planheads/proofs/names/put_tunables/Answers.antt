use Rattle.std.proofs.Common.{arith}
use Rattle.sq_planfile.specs.Written.{tunables_in}
use Rattle.sq_planheads.proofs.NameTables.{names_next}
use Rattle.sq_planheads.proofs.names.put_tunables.Goals as goal

pub loop-decl-preserved : goal.loop-decl-preserved
loop-decl-preserved c =
    names_next tunables_in c.args.table.now c.loop-decl.table c.put_tunable.new.table c.args.decls.now c.loop-decl.decl-index c.decl-item.result (omega arith) c.decl-item.is c.in_ok-put_tunable.ensures c.loop-decl.invariant
