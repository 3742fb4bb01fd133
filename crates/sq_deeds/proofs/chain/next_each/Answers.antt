use Rattle.std.proofs.Common.{rules, ◌≡◌, ◌<◌, [], ◌∷◌, ℤ, w64, to_z, of_z, FitsSigned}
use Rattle.sq_num.specs.Elements.{cut}
use Rattle.sq_deeds.specs.Deeds.{along_links}
use Rattle.sq_deeds.proofs.Carrying.{next_meets, next_left}
use Rattle.sq_deeds.proofs.chain.next_each.Goals as goal

pub loop-j-preserved : goal.loop-j-preserved
loop-j-preserved c =
    let below : c.loop-j.j < c.args.turns = search rules in
    let fits : FitsSigned w64 c.cut-x.result = search rules in
    let v : ℤ = to_z w64 (of_z w64 c.cut-x.result) in
    let number : v ≡ cut c.args.elem (along_links c.args.columns.now (c.args.link ∷ []) c.loop-j.j (to_z w64 c.loop-j.x-bits)) = search rules in
    record {
      meets = next_meets c.args.elem c.args.rise c.loop-j.j c.byte_at-at.result v _ c.loop-j.bytes c.store.new.bytes c.byte_at-at.ensures.inside c.byte_at-at.ensures.value number c.store.ensures;
      left = next_left c.args.columns.now c.args.elem c.args.rise (c.args.link ∷ []) c.args.turns c.loop-j.j c.byte_at-at.result v _ c.loop-j.bytes c.store.new.bytes _ below c.byte_at-at.ensures.value c.loop-j.invariant.meets number c.store.ensures c.loop-j.invariant.left;
    }
