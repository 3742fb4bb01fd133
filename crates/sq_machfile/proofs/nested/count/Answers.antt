use Rattle.std.proofs.Common.{◌≡◌, ◌∙◌, ap, get_or, refl, rules, arith}
use Rattle.std.proofs.lemmas.Grind.{common_steps}
use Rattle.sq_machfile.proofs.Walks.{grown, counted}
use Rattle.sq_machfile.proofs.nested.count.Goals as goal

pub returns : goal.returns
returns c = λ d.
    let made : c.push.new.self.items ≡ grown c.args.counts.now.items c.args.depth _ = first_of (search rules, grind (arith, common_steps)) in
    ap (λ xs. get_or xs d 0) made ∙ counted c.args.counts.now.items c.args.depth _ d refl
