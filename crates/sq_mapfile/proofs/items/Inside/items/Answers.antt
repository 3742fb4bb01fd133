use Rattle.sq_mapfile.specs.Walk.{inside_of}
use Rattle.sq_mapfile.proofs.Walks.{next_item}
use Rattle.sq_mapfile.proofs.items.Inside.items.Goals as goal

pub loop-i-preserved : goal.loop-i-preserved
loop-i-preserved c =
    next_item (inside_of c.args.self.now) c.args.found.now c.loop-i.found c.item.new.found c.loop-i.i c.args.self.now.items.now.items.now c.item-item.result
    c.loop-i-test.true c.item-item.is c.in_ok-item.ensures c.loop-i.invariant
