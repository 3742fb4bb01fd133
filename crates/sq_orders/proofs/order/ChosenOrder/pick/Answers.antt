use Rattle.std.proofs.Common.{ap}
use Rattle.sq_orders.specs.Chosen.{chosen_held}
use Rattle.sq_orders.proofs.Ways.{seed_told}
use Rattle.sq_orders.proofs.order.ChosenOrder.pick.Goals as goal

pub returns-in-Seed : goal.returns-in-Seed
returns-in-Seed c held told =
    seed_told (chosen_held c.args.self.now) held _ _ _ _ (ap chosen_held c.in-Seed.is) told c.pick-in-Seed.ensures
