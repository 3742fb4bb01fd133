use Rattle.std.proofs.Common.{◌+◌, arith, get_or}
use Rattle.std.proofs.lemmas.Option.{slice_get-get_or}
use Rattle.sq_race.proofs.Firsts.{blank, first_read, none_read}
use Rattle.sq_race.proofs.Selected.{all_of_one}
use Rattle.sq_race.proofs.forms.first_of_one.Goals as goal

pub race_of-requires : goal.race_of-requires
race_of-requires c =
    all_of_one c.args.maps.now c.args.uses.now c.args.map (c.args.map + 1) c.args.map (get_or c.args.maps.now c.args.map blank) c.args.numbers.now c.requires.all (omega arith) (omega arith) (slice_get-get_or c.args.maps.now c.args.map blank c.requires.within)

pub returns-in-Some : goal.returns-in-Some
returns-in-Some c = first_read c.args.maps.now c.args.uses.now c.args.map c.in_ok-later.field-0 c.in-Some.field-0 c.requires.within c.in_ok-later.ensures c.in-Some.is

pub returns-in-None : goal.returns-in-None
returns-in-None c = none_read c.args.maps.now c.args.uses.now c.args.map c.in_ok-later.field-0 c.requires.within c.in_ok-later.ensures c.in-None.is
