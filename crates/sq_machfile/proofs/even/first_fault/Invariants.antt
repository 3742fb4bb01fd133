use Rattle.std.proofs.Common.{◌≡◌, suc, drop}
use Rattle.sq_text.specs.declared.code.Phase.TheVariants.{Machine}
use Rattle.sq_text.specs.Found.{firsts, nothing_found}
use Rattle.sq_machfile.specs.Faults.{judge}
use Rattle.sq_machfile.specs.Walk.{below_rules, levels_rules}
use Rattle.sq_machfile.specs.Tallies.{capped, count_of}
use Rattle.sq_machfile.proofs.even.first_fault.Given as goal

abbrev pub invariant-loop-i : goal.invariant-loop-i
invariant-loop-i l = firsts judge l.first (below_rules capped (suc l.i) (count_of l.tally) (drop l.i l.below-items)) ≡ firsts judge (nothing_found Machine) (levels_rules capped l.fn.text)
