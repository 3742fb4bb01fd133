use Rattle.std.proofs.Common.{◌∙◌}
use Rattle.sq_deeds.proofs.Performing.{where_turns}
use Rattle.sq_deeds.proofs.perform.only.Goals as goal

pub returns-in-Known : goal.returns-in-Known
returns-in-Known c =
    c.put_where.ensures ∙ where_turns c.args.columns.now c.args.at_zero c.args.test c.args.put.now c.in-Known.x c.in-Known.is c.args.turns c.args.bytes.now c.are_bytes.ensures c.requires.fits.to
