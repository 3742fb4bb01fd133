use Rattle.std.proofs.Common.{arith}
use Rattle.sq_planfile.specs.Written.{sizes_in}
use Rattle.sq_planheads.proofs.NameTables.{names_next}
use Rattle.sq_planheads.proofs.names.put_sizes.Goals as goal

pub loop-extent-preserved : goal.loop-extent-preserved
loop-extent-preserved c =
    names_next sizes_in c.args.table.now c.loop-extent.table c.put_size.new.table c.args.extents.now c.loop-extent.extent-index c.extent-item.result (omega arith) c.extent-item.is c.in_ok-put_size.ensures c.loop-extent.invariant
