use Rattle.std.proofs.Common.{◌≡◌, drop}
use Rattle.sq_mapfile.specs.Faults.{first_missing, has_size}
use Rattle.sq_mapfile.proofs.given.SizeTable.missing.Given as goal

abbrev pub invariant-loop-name : goal.invariant-loop-name
invariant-loop-name l = first_missing (has_size l.self.sizes.now) (drop l.name-index l.wanted) ≡ first_missing (has_size l.self.sizes.now) l.wanted
