use Rattle.std.proofs.Common.{arith}
use Rattle.sq_planfile.specs.Written.{tunables_in}
use Rattle.sq_planfile.proofs.Firsts.{firsts_next}
use Rattle.sq_planfile.proofs.heads.put_tunables.Goals as goal

pub loop-decl-preserved : goal.loop-decl-preserved
loop-decl-preserved c =
    firsts_next (tunables_in) c.args.names.now c.loop-decl.names c.put_tunable.new.names c.args.decls.now c.loop-decl.decl-index c.decl-item.result (omega arith) c.decl-item.is c.in_ok-put_tunable.ensures c.loop-decl.invariant
