use Rattle.sq_rooms.proofs.Places.{join-more}
use Rattle.sq_rooms.proofs.walk.join.Goals as goal

pub loop-list-preserved : goal.loop-list-preserved
loop-list-preserved c =
    join-more c.loop-list.names c.append.new.self c.in-Some.list c.loop-list.left c.pop.new.self _ c.in_ok-append.ensures c.in-Some.ensures c.loop-list.invariant
