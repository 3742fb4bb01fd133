use Rattle.std.proofs.Common.{◌≡◌, List, drop}
use Rattle.sq_text.specs.Found.{firsts}
use Rattle.sq_machfile.specs.Faults.{judge, Rule}
use Rattle.sq_machfile.specs.Walk.{no_names, names_rules}
use Rattle.sq_machfile.specs.Tallies.{names_in}
use Rattle.sq_machfile.proofs.uneven.level_names.Given as goal

abbrev pub invariant-loop-i : goal.invariant-loop-i
invariant-loop-i l = (later : List Rule) → firsts judge l.first (names_rules l.i (names_in l.names) (drop l.i l.words) later) ≡ firsts judge l.fn.first (names_rules 0 no_names l.words later)
