use Rattle.sq_store.specs.Place.{IsRoomFor}
use Rattle.sq_store.proofs.Worst.{placed_is}
use Rattle.sq_store.proofs.fitting.place.Goals as goal

pub returns-in-Ok-clause-placed : goal.returns-in-Ok-clause-placed
returns-in-Ok-clause-placed c = λ can.
    let r : IsRoomFor c.args.d c.args.nodes c.in-Ok.offsets = c.in-Ok.ensures.room can in
    placed_is c.args.d c.args.nodes c.in-Ok.offsets can r
