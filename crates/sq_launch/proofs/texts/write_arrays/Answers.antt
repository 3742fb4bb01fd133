use Rattle.sq_tree.specs.Bank.{bytes_at, size_in}
use Rattle.sq_launch.proofs.Placing.{place_at, part_long}
use Rattle.sq_launch.proofs.texts.write_arrays.Goals as goal

pub part_of-requires : goal.part_of-requires
part_of-requires g c = place_at c.args.plan.now c.args.arrays.now (size_in (g.B.Bank.seen c.args.bank.now).nodes 0)
    c.loop-array.array-index c.array-item.result c.place_of.result c.requires.within c.loop-array-test.true
    c.array-item.is c.place_of.ensures

pub put_next-so_far-requires : goal.put_next-so_far-requires
put_next-so_far-requires g c = part_long c.args.plan.now c.array-item.result c.place_of.result
    (bytes_at (g.B.Bank.seen c.args.bank.now).nodes 0) c.part_of.result.now
    (place_at c.args.plan.now c.args.arrays.now (size_in (g.B.Bank.seen c.args.bank.now).nodes 0)
    c.loop-array.array-index c.array-item.result c.place_of.result c.requires.within c.loop-array-test.true
    c.array-item.is c.place_of.ensures)
    c.place_of.ensures c.part_of.ensures
