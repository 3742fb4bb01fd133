use Rattle.std.proofs.Common.{◌≡◌, map}
use Rattle.sq_mapfile.specs.Faults.{first_missing, has_tunable}
use Rattle.sq_mapfile.proofs.given.ItemTable.missing_tunable.Given as goal

abbrev pub invariant-loop-name : goal.invariant-loop-name
invariant-loop-name l = first_missing (has_tunable l.self.items.now) l.name-iterator ≡ first_missing (has_tunable l.self.items.now) (map (λ t. t.0) l.tunables.entries)
