use Rattle.std.proofs.Common.{◌∙◌, ap, sym}
use Rattle.sq_race.specs.Selection.{taken}
use Rattle.sq_race.proofs.Selected.{least_is}
use Rattle.sq_race.proofs.plain.race_of.Goals as goal

pub returns : goal.returns
returns c =
    least_is c.args.map.now c.args.uses.now c.deref-3.result.now c.args.numbers.now c.deref.result.now c.deref-4.result.now c.in_ok-found.found c.renumbered.result c.requires
    (c.deref.ensures.value ∙ c.in_ok-arrays.ensures)
    (c.deref-4.ensures.value ∙ c.in_ok-numbers.ensures)
    (c.deref-3.ensures.value ∙ c.in_ok-taken.ensures ∙ ap (taken c.args.uses.now) (c.deref-2.ensures.value ∙ sym c.deref-4.ensures.value))
    c.in_ok-found.ensures
    c.renumbered.ensures
