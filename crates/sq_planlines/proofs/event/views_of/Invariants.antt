use Rattle.std.proofs.Common.{◌≡◌, ◌++◌, map, drop}
use Rattle.sq_planlines.specs.Narrow.{view_of}
use Rattle.sq_planlines.proofs.event.views_of.Given as goal

abbrev pub invariant-loop-text : goal.invariant-loop-text
invariant-loop-text l = l.views ++ map view_of (drop l.text-index l.texts) ≡ map view_of l.texts
