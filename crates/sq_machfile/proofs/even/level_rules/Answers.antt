use Rattle.std.proofs.Common.{◌∷◌, ◌∙◌, ap}
use Rattle.sq_text.specs.declared.code.Code.TheVariants.{LimitCapacity}
use Rattle.sq_text.specs.Found.{firsts, noted, at_numeral}
use Rattle.sq_machfile.specs.Faults.{judge, is_over_capacity}
use Rattle.sq_machfile.specs.Walk.{bytes_with}
use Rattle.sq_machfile.specs.Tallies.{capped, count_of}
use Rattle.sq_machfile.proofs.even.level_rules.Goals as goal

pub returns-clause-found : goal.returns-clause-found
returns-clause-found c = λ later.
    let over = c.is_over_capacity-is_over.ensures ∙ ap (is_over_capacity c.args.level.now.capacity.value c.args.tally.now.bytes) c.bytes_with-bytes.ensures in
    ap (λ f. firsts judge f later) (c.in_ok-note_number.ensures ∙ ap (λ b. noted c.level_name.new.first (at_numeral LimitCapacity c.args.level.now.capacity b)) over)
    ∙ c.in_ok-level_name.ensures.found (at_numeral LimitCapacity c.args.level.now.capacity
    (is_over_capacity c.args.level.now.capacity.value c.args.tally.now.bytes (bytes_with capped (count_of c.args.tally.now) c.args.level.now)) ∷ later)
