use Rattle.std.proofs.Common.{rules, ◌≡◌, ◌∙◌, ◌+◌, ◌<◌, ◌≤◌, [], ◌∷◌, length, ℤ, ap, arith, w64, to_z, of_z, FitsSigned}
use Rattle.std.proofs.lemmas.List.{length-set}
use Rattle.std.proofs.lemmas.Int.{to_z-of_z}
use Rattle.sq_num.specs.Elements.{cut}
use Rattle.sq_deeds.specs.Deeds.{number_at, along_links}
use Rattle.sq_deeds.proofs.Choosing.{own_first, next_stays, next_chosen}
use Rattle.sq_deeds.proofs.Forwarding.{next_along}
use Rattle.sq_deeds.proofs.forward.forward_each.Goals as goal

pub loop-j-preserved : goal.loop-j-preserved
loop-j-preserved c =
    let below : c.loop-j.j < c.args.turns = search rules in
    let few : c.loop-j.j < 256 = omega (arith, below, c.requires.few) in
    let at : c.loop-j.j ≤ c.loop-j.j = omega arith in
    let fits : FitsSigned w64 c.forwarded_one.result = search rules in
    let v : ℤ = to_z w64 (of_z w64 c.forwarded_one.result) in
    let old = c.args.columns.now in
    let size : length c.loop-j.columns ≡ length old = c.loop-j.invariant.size in
    let inside : c.args.x.from + c.loop-j.j < length c.loop-j.columns = omega (arith, few, size, c.requires.number) in
    let is : v ≡ along_links old (c.args.link ∷ []) c.loop-j.j (cut c.args.elem (number_at old c.args.x c.loop-j.j)) =
    to_z-of_z w64 c.forwarded_one.result fits ∙ (c.forwarded_one.ensures
    ∙ (c.loop-j.invariant.along c.loop-j.j at few _
    ∙ ap (λ (z : ℤ). along_links old (c.args.link ∷ []) c.loop-j.j (cut c.args.elem z)) (c.loop-j.invariant.number c.loop-j.j at few))) in
    record {
      size = length-set c.loop-j.columns (c.args.x.from + c.loop-j.j) v ∙ size;
      done = next_chosen c.args.x.from c.loop-j.j (λ i. along_links old (c.args.link ∷ []) i (cut c.args.elem (number_at old c.args.x i))) c.loop-j.columns v inside is c.loop-j.invariant.done;
      number = next_stays c.args.x.from c.args.x old c.loop-j.columns v c.loop-j.j (own_first c.args.x) c.loop-j.invariant.number;
      along = next_along c.args.x.from (c.args.link ∷ []) old c.loop-j.columns v c.loop-j.j (c.requires.first, tt) c.loop-j.invariant.along;
    }
