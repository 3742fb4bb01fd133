use Rattle.std.proofs.Common.{ap}
use Rattle.sq_machfile.specs.Tallies.{count_of, names_in}
use Rattle.sq_machfile.proofs.Walks.{even_start, even_turn}
use Rattle.sq_machfile.proofs.even.first_fault.Goals as goal

pub loop-i-init : goal.loop-i-init
loop-i-init c = rw c.as_slice-below-items.ensures (even_start c.new-first.result c.level_rules.new.first _ _ c.args.text.now c.new-first.ensures
    (ap (λ names. record { names = names_in names; width = 1; nodes = 1; bytes = 0 }) c.new.ensures) c.in_ok-level_rules.ensures.found c.in_ok-level_rules.ensures.tally)

pub loop-i-preserved : goal.loop-i-preserved
loop-i-preserved c = even_turn c.loop-i.first c.below_rules.new.first _ (count_of c.loop-i.tally) (count_of c.below_rules.new.tally) c.loop-i.i c.below-item.result c.below-item.result c.as_slice-below-items.result.now
    c.loop-i-test.true c.below-item.is c.loop-i.invariant c.in_ok-below_rules.ensures.found c.in_ok-below_rules.ensures.tally
