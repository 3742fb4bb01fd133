use Rattle.std.proofs.Common.{◌≡◌, List, drop}
use Rattle.sq_text.specs.Found.{firsts}
use Rattle.sq_mapfile.specs.Faults.{Rule, breach_of}
use Rattle.sq_mapfile.specs.Notes.{items_rules}
use Rattle.sq_mapfile.specs.Walk.{inside_of}
use Rattle.sq_mapfile.proofs.items.Inside.items.Given as goal

abbrev pub invariant-loop-i : goal.invariant-loop-i
invariant-loop-i l = (later : List Rule)
    → firsts breach_of l.found (items_rules (inside_of l.self) l.i (drop l.i l.self.items.now.items.now) later)
    ≡ firsts breach_of l.fn.found (items_rules (inside_of l.self) 0 l.self.items.now.items.now later)
