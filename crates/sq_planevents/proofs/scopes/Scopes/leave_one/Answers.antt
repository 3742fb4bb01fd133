use Rattle.std.proofs.Common.{rules, ◌≡◌, ◌-◌, ◌++◌, ◌∷◌, [], get_or}
use Rattle.sq_planevents.specs.Standing.{AreCounts, with_count}
use Rattle.sq_planevents.proofs.Counted.{left}
use Rattle.sq_planevents.proofs.scopes.Scopes.leave_one.Goals as goal

pub invariant_of-self-in-Some : goal.invariant_of-self-in-Some
invariant_of-self-in-Some c =
    let old : AreCounts c.self.inside.named c.self.inside.counts = c.self.invariant in
    let named : c.self.inside.named ≡ c.pop.new.self ++ c.in-Some.buffer ∷ [] = search rules in
    let count : c.count_of-count.result ≡ get_or c.self.inside.counts c.in-Some.buffer 0 = search rules in
    let less : c.saturating_sub.result ≡ c.count_of-count.result - 1 = search rules in
    let counts : c.put_count.new.counts ≡ with_count c.self.inside.counts c.in-Some.buffer c.saturating_sub.result = search rules in
    left c.self.inside.named c.pop.new.self c.self.inside.counts c.put_count.new.counts c.in-Some.buffer c.count_of-count.result c.saturating_sub.result old named counts count less
