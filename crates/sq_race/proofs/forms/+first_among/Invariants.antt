use Rattle.std.proofs.Common.{◌-◌}
use Rattle.sq_race.proofs.forms.+first_among.Given as goal

abbrev pub decreases-first_among : goal.decreases-first_among
decreases-first_among l = l.to - l.from
