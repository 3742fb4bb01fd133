use Rattle.std.proofs.Common.{◌≡◌, drop}
use Rattle.sq_mapping.specs.Names.{first_from}
use Rattle.sq_mapfile.specs.Names.{is_spread, spread_index}
use Rattle.sq_mapfile.proofs.given.spread_index.Given as goal

abbrev pub invariant-loop-i : goal.invariant-loop-i
invariant-loop-i l = first_from is_spread l.i (drop l.i l.items) ≡ spread_index l.items
