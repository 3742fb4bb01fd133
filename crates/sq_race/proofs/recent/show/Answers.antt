use Rattle.std.proofs.Common.{◌∙◌, sym}
use Rattle.sq_race.proofs.Settled.{settled}
use Rattle.sq_race.proofs.recent.show.Goals as goal

pub returns : goal.returns
returns c = λ e.
    settled c.args.map.now c.args.uses.now c.args.known.one c.args.known.two c.args.later c.nth.result.now c.nth-2.result.now c.nth-3.result.now c.requires.none c.nth.ensures c.nth-2.ensures c.nth-3.ensures c.if-known-later.false c.if-known-later-2.false (sym c.settles.ensures ∙ e)
