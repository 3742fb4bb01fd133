use Rattle.std.proofs.Common.{arith}
use Rattle.sq_rect.specs.Extents.{product}
use Rattle.sq_launch.proofs.Placing.{count_fits, size_fits}
use Rattle.sq_launch.proofs.places.bytes_of.Goals as goal

pub overflow_cast-result : goal.overflow_cast-result
overflow_cast-result c =
    let few = count_fits c.elements.result (product c.args.extents.now) c.elements.ensures c.requires in
    omega (arith, few)

pub overflow_mul-result : goal.overflow_mul-result
overflow_mul-result c =
    let few = size_fits c.args.elem c.elements.result (product c.args.extents.now) c.width.result c.elements.ensures
    c.width.ensures c.requires in
    omega (arith, few)
