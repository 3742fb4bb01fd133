use Rattle.std.proofs.Common.{◌≡◌, drop}
use Rattle.sq_text.specs.Names.{same_name}
use Rattle.sq_mapping.specs.Names.{first_from}
use Rattle.sq_mapfile.specs.Names.{level_of}
use Rattle.sq_mapfile.proofs.table.level_of.Given as goal

abbrev pub invariant-loop-i : goal.invariant-loop-i
invariant-loop-i l = first_from (λ level. same_name l.name level.name) l.i (drop l.i l.levels) ≡ level_of l.levels l.name
