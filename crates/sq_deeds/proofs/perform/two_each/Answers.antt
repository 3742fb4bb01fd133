use Rattle.std.proofs.Common.{rules, [], ◌∷◌}
use Rattle.sq_deeds.specs.declared.deeds.Deed.TheVariants as variants
use Rattle.sq_deeds.proofs.Performing.{next_done}
use Rattle.sq_deeds.proofs.perform.two_each.Goals as goal

pub loop-j-preserved : goal.loop-j-preserved
loop-j-preserved c =
    next_done c.args.columns.now (variants.Always c.args.first.now ∷ variants.Always c.args.second.now ∷ []) c.args.turns c.loop-j.j c.loop-j.bytes c.two_one.new.bytes _ (search rules) c.two_one.ensures c.loop-j.invariant
