use Rattle.sq_turns.specs.declared.block.Write.{Write}
use Rattle.std.proofs.Common.{List, subst}
use Rattle.sq_columns.specs.Lines.{first_byte}
use Rattle.sq_turns.specs.Blocks.{AreClearOfEach}
use Rattle.sq_turns.proofs.Meeting.{are_clear}
use Rattle.sq_turns.proofs.block.is_clear.Goals as goal

pub returns : goal.returns
returns c = λ clear.
    are_clear c.args.block.now c.args.elem (first_byte c.args.spots c.args.column.now)
    (subst (λ (ws : List Write). AreClearOfEach ws c.args.block.now.turns c.args.elem (first_byte c.args.spots c.args.column.now)) c.as_slice.ensures.value (c.is_clear_of_each.ensures clear))
