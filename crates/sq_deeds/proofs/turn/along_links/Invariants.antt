use Rattle.std.proofs.Common.{◌≡◌, drop}
use Rattle.sq_deeds.specs.Deeds.{along_from}
use Rattle.sq_deeds.proofs.turn.along_links.Given as goal

abbrev pub invariant-loop-link : goal.invariant-loop-link
invariant-loop-link l = along_from l.columns (drop l.link-index l.links) l.j l.fn.first l.x ≡ along_from l.columns l.links l.j l.fn.first l.fn.first
