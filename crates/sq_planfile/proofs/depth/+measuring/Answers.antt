use Rattle.std.proofs.Common.{sym, ◌∙◌, arith}
use Rattle.sq_planfile.proofs.Depths.{any_found}
use Rattle.sq_planfile.proofs.depth.+measuring.Goals as goal

pub is_any_deeper-returns-then-is_deeper : goal.is_any_deeper-returns-then-is_deeper
is_any_deeper-returns-then-is_deeper t c =
    sym (any_found c.args.levels c.args.parts.now c.loop-part.part-index c.part-item.result (omega arith) c.part-item.is (sym c.is_deeper.ensures ∙ c.if-is_deeper.true))
