use Rattle.std.proofs.Common.{sym, ap, ◌∙◌}
use Rattle.std.specs.Option.{option_copied}
use Rattle.sq_term.specs.Placed.declared.home.Home.TheVariants.{InPlace}
use Rattle.sq_tables.proofs.Lists.{no_item}
use Rattle.sq_tables.proofs.leaving.home_at.Goals as goal

pub returns-in-None : goal.returns-in-None
returns-in-None c = no_item c.args.homes.now c.args.i InPlace (sym c.at.ensures ∙ ap option_copied c.in-None.is)
