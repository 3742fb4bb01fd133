use Rattle.std.proofs.Common.{◌≡◌, List, drop}
use Rattle.std.specs.Option.{option_copied}
use Rattle.sq_text.specs.Found.{firsts}
use Rattle.sq_mapfile.specs.Faults.{Rule, breach_of}
use Rattle.sq_mapfile.specs.Notes.{sizes_rules}
use Rattle.sq_mapfile.proofs.entry.sizes.Given as goal

abbrev pub invariant-loop-i : goal.invariant-loop-i
invariant-loop-i l = (later : List Rule)
    → firsts breach_of l.found (sizes_rules (option_copied l.required) l.table.sizes.now l.i (drop l.i l.table.sizes.now) later)
    ≡ firsts breach_of l.fn.found (sizes_rules (option_copied l.required) l.table.sizes.now 0 l.table.sizes.now later)
