use Rattle.std.proofs.Common.{rules, ◌≡◌, ◌∙◌, w64, to_z, of_z, FitsSigned}
use Rattle.std.proofs.lemmas.Int.{to_z-of_z}
use Rattle.sq_leaf.specs.Source as source
use Rattle.sq_columns.specs.Lines.{line_at}
use Rattle.sq_deeds.specs.Deeds.{byte_at}
use Rattle.sq_deeds.proofs.Rising.{next_put}
use Rattle.sq_deeds.proofs.puts.put_loop.Goals as goal

pub loop-j-preserved : goal.loop-j-preserved
loop-j-preserved c =
    let fits : FitsSigned w64 c.at.result = search rules in
    let number : to_z w64 (of_z w64 c.at.result) ≡ line_at c.args.x c.args.numbers.now c.loop-j.j = to_z-of_z w64 c.at.result fits ∙ c.at.ensures in
    next_put c.args.elem (source.assigned c.args.op) (byte_at c.args.rise) (line_at c.args.x c.args.numbers.now) c.args.turns c.loop-j.j
    c.byte_at-at.result (to_z w64 (of_z w64 c.at.result)) c.loop-j.bytes c.put.new.bytes _ (search rules) c.byte_at-at.ensures.value number c.put.ensures c.loop-j.invariant
