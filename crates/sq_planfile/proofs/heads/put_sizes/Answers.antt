use Rattle.std.proofs.Common.{arith}
use Rattle.sq_planfile.specs.Written.{sizes_in}
use Rattle.sq_planfile.proofs.Firsts.{firsts_next}
use Rattle.sq_planfile.proofs.heads.put_sizes.Goals as goal

pub loop-extent-preserved : goal.loop-extent-preserved
loop-extent-preserved c =
    firsts_next (sizes_in) c.args.names.now c.loop-extent.names c.put_size.new.names c.args.extents.now c.loop-extent.extent-index c.extent-item.result (omega arith) c.extent-item.is c.in_ok-put_size.ensures c.loop-extent.invariant
