use Rattle.std.proofs.Common.{◌∙◌, refl}
use Rattle.sq_deeds.proofs.Reaching.{ways_apart}
use Rattle.sq_deeds.proofs.perform.sides.Goals as goal

pub returns-then-are_puts_apart : goal.returns-then-are_puts_apart
returns-then-are_puts_apart c =
    c.only-then-are_puts_apart.ensures
    ∙ ways_apart c.args.columns.now c.args.test c.args.first.now c.args.second.now c.args.turns c.args.bytes.now c.only.new.bytes c.requires.test c.requires.first c.requires.second (c.if-are_puts_apart.ensures refl)
    c.only.ensures
