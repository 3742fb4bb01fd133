use Rattle.std.proofs.Common.{rules, ◌≡◌, ◌+◌, ◌++◌, ◌∷◌, [], get_or, arith}
use Rattle.std.proofs.lemmas.Grind.{common_steps}
use Rattle.sq_planevents.specs.Standing.{AreCounts, with_count}
use Rattle.sq_planevents.proofs.Counted.{entered}
use Rattle.sq_planevents.proofs.scopes.Scopes.enter.Goals as goal

pub invariant_of-self-2 : goal.invariant_of-self-2
invariant_of-self-2 c =
    let old : AreCounts c.self.inside.named c.self.inside.counts = c.self.invariant in
    let named : c.push.new.self ≡ c.self.inside.named ++ c.args.buffer ∷ [] = search rules in
    let counts : c.put_count.new.counts ≡ with_count c.self.inside.counts c.args.buffer c.in_ok-more.more = search rules in
    let more : c.in_ok-more.more ≡ get_or c.self.inside.counts c.args.buffer 0 + 1 = first_of (search rules, grind (arith, common_steps)) in
    entered c.self.inside.named c.push.new.self c.self.inside.counts c.put_count.new.counts c.args.buffer c.in_ok-more.more old named counts more
