use Rattle.std.proofs.Common.{rules, Some, [], ◌∷◌}
use Rattle.sq_deeds.specs.declared.deeds.Deed.TheVariants as variants
use Rattle.sq_deeds.proofs.Performing.{next_done}
use Rattle.sq_deeds.proofs.perform.either_each.Goals as goal

pub loop-j-preserved : goal.loop-j-preserved
loop-j-preserved c =
    next_done c.args.columns.now (variants.Choice c.args.test (Some c.args.first.now) (Some c.args.second.now) ∷ []) c.args.turns c.loop-j.j c.loop-j.bytes c.either_one.new.bytes _ (search rules) c.either_one.ensures c.loop-j.invariant
