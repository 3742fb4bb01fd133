use Rattle.sq_launch.proofs.Placing.{banks_have_room, places_have_sizes, sizes_are_small}
use Rattle.sq_launch.proofs.laws.banks_have_room.Goals as goal

pub returns-clause-room : goal.returns-clause-room
returns-clause-room c = banks_have_room c.picked_places_fit.ensures.fit

pub returns-clause-sizes : goal.returns-clause-sizes
returns-clause-sizes c = places_have_sizes

pub returns-clause-small : goal.returns-clause-small
returns-clause-small c = sizes_are_small
