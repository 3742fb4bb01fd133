use Rattle.std.proofs.Common.{◌∙◌, Some, ap, sym}
use Rattle.sq_race.proofs.Steps.{read}
use Rattle.sq_race.proofs.taken.nth.Goals as goal

pub returns : goal.returns
returns c = read c.args.uses.now c.args.number c.index-uses-number.result c.requires c.index-uses-number.is ∙ ap Some (sym c.access.ensures)
