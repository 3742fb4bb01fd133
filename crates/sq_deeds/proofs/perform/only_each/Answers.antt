use Rattle.std.proofs.Common.{rules, [], ◌∷◌}
use Rattle.sq_deeds.specs.Loops.{only_where}
use Rattle.sq_deeds.proofs.Performing.{next_done}
use Rattle.sq_deeds.proofs.perform.only_each.Goals as goal

pub loop-j-preserved : goal.loop-j-preserved
loop-j-preserved c =
    next_done c.args.columns.now (only_where c.args.at_zero c.args.test c.args.put.now ∷ []) c.args.turns c.loop-j.j c.loop-j.bytes c.only_one.new.bytes _ (search rules) c.only_one.ensures c.loop-j.invariant
