use Rattle.std.proofs.Common.{rules}
use Rattle.sq_forms.proofs.Tallies.{tally_maps}
use Rattle.sq_forms.proofs.tally.maps_of.Goals as goal

pub returns-in-Some : goal.returns-in-Some
returns-in-Some c = tally_maps c.args.s.now c.in-Map.place c.in-Map.kind c.in-Map.ranges c.in-Map.body c.args.maps.now c.in-Some.tally.now c.in-Map.is c.requires (search rules)
