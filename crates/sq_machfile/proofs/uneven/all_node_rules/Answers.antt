use Rattle.std.proofs.Common.{ap}
use Rattle.sq_text.specs.Found.{firsts}
use Rattle.sq_machfile.specs.Faults.{judge}
use Rattle.sq_machfile.specs.Walk.{all_node_rules}
use Rattle.sq_machfile.specs.Tallies.{capped, names_in}
use Rattle.sq_machfile.proofs.uneven.all_node_rules.Goals as goal

pub loop-i-init : goal.loop-i-init
loop-i-init c = ap (λ names. firsts judge c.args.first.now (all_node_rules capped c.args.levels 0 (record { names = names_in names; bytes = 0 }) c.args.nodes.now)) c.new.ensures
