use Rattle.std.proofs.Common.{◌≡◌, drop}
use Rattle.sq_text.specs.Found.{firsts}
use Rattle.sq_machfile.specs.Faults.{judge}
use Rattle.sq_machfile.specs.Walk.{before_nodes, all_node_rules}
use Rattle.sq_machfile.specs.Tallies.{capped, node_count_of}
use Rattle.sq_machfile.proofs.uneven.all_node_rules.Given as goal

abbrev pub invariant-loop-i : goal.invariant-loop-i
invariant-loop-i l = firsts judge l.first (all_node_rules capped l.levels l.i (node_count_of l.tally) (drop l.i l.nodes)) ≡ firsts judge l.fn.first (all_node_rules capped l.levels 0 before_nodes l.nodes)
