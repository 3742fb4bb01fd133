use Rattle.std.proofs.Common.{◌∙◌, ap}
use Rattle.sq_text.specs.Found.{firsts}
use Rattle.sq_machfile.specs.Faults.{judge}
use Rattle.sq_machfile.specs.Walk.{level_rules, after_children}
use Rattle.sq_machfile.specs.Tallies.{capped, count_of}
use Rattle.sq_machfile.proofs.even.below_rules.Goals as goal

pub returns-clause-found : goal.returns-clause-found
returns-clause-found c = λ later. c.in_ok-level_rules.ensures.found later
    ∙ ap (λ count. firsts judge c.children_rules.new.first (level_rules capped c.args.index count c.args.below.now.level later)) c.in_ok-children_rules.ensures.tally
    ∙ c.in_ok-children_rules.ensures.found (level_rules capped c.args.index (after_children capped (count_of c.args.tally.now) c.args.below.now.children) c.args.below.now.level later)
