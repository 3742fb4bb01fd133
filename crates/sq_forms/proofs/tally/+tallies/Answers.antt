use Rattle.sq_forms.proofs.Tallies.{tally_set}
use Rattle.sq_forms.proofs.tally.+tallies.Goals as goal

pub push_tally-returns-in_ok-plus-in-Map-clause-maps : goal.push_tally-returns-in_ok-plus-in-Map-clause-maps
push_tally-returns-in_ok-plus-in-Map-clause-maps t c =
    tally_set c.args.s.now c.in-Map.place c.in-Map.kind c.in-Map.ranges c.in-Map.body c.as_slice.result.now c.args.maps.now c.push.new.self c.push_tallies.new.maps c.set.new.self
    c.len-here.result c.in_ok-plus-in-Map.field-0 _ c.in_ok-inside-in-Map.inside c.in-Map.is c.as_slice.ensures c.len-here.ensures c.in_ok-push-in-Map.ensures.ok
    c.in_ok-inside-in-Map.ensures.maps c.in_ok-inside-in-Map.ensures.sum c.in_ok-plus-in-Map.ensures c.set.ensures
