use Rattle.std.proofs.Common.{rules, ◌≡◌, ◌<◌, length, get_or, refl}
use Rattle.sq_planevents.specs.Standing.{AreCounts}
use Rattle.sq_planevents.proofs.Counted.{counted_has}
use Rattle.sq_planevents.proofs.scopes.Scopes.has.Goals as goal

pub returns-then-buffer-len : goal.returns-then-buffer-len
returns-then-buffer-len c =
    let counts : AreCounts c.args.self.now c.self.inside.counts = search rules in
    let there : c.args.buffer < length c.self.inside.counts = search rules in
    let count : c.count_of.result ≡ get_or c.self.inside.counts c.args.buffer 0 = search rules in
    counted_has c.args.self.now c.self.inside.counts c.args.buffer c.count_of.result _ counts there count refl
