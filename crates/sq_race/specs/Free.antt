-- Without a race among the accesses of its forms the work of a program has none: the iterations of its maps may run one
-- after another.
use Rattle.std.specs.Prelude.{None}
use Rattle.sq_spec.specs.declared.resolved.Resolved.{Resolved}
use Rattle.sq_spec.specs.Works.{work_of}
use Rattle.sq_work.specs.InTurn.{IsRaceFree}
use Rattle.sq_race.specs.Race.{IsFirstRace}

abbrev pub NoRaceIsFree : Type 0
NoRaceIsFree = (r : Resolved) → IsFirstRace r None → IsRaceFree (work_of r.typed.now.tasks r.mapping.now r.found.entries)
