use Rattle.sq_race.specs.Selection.{AreInside}
use Rattle.sq_race.proofs.forms.calls_of.Given as goal

abbrev pub invariant-loop-number : goal.invariant-loop-number
invariant-loop-number l = AreInside l.maps l.from l.number l.calls
