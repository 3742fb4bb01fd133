use Rattle.std.proofs.Common.{◌∙◌, length}
use Rattle.sq_race.proofs.Firsts.{whole_if}
use Rattle.sq_race.proofs.Selected.{all_of_list}
use Rattle.sq_race.proofs.forms.first_of.Goals as goal

pub first_among-requires-clause-all : goal.first_among-requires-clause-all
first_among-requires-clause-all c = all_of_list c.args.maps.now c.args.uses.now 0 (length c.args.maps.now) c.deref.result.now (c.deref.ensures.value ∙ c.in_ok-numbers.ensures)

pub returns : goal.returns
returns c = whole_if c.args.maps.now c.args.uses.now c.first_among.result c.first_among.ensures
