use Rattle.std.proofs.Common.{◌≡◌, ◌-◌}
use Rattle.sq_leaf.specs.Source as source
use Rattle.sq_columns.specs.Lines.{line_at}
use Rattle.sq_deeds.specs.Puts.{puts}
use Rattle.sq_deeds.specs.Deeds.{byte_at}
use Rattle.sq_deeds.proofs.puts.put_loop.Given as goal

abbrev pub invariant-loop-j : goal.invariant-loop-j
invariant-loop-j l =
    puts l.elem (source.assigned l.op) (byte_at l.rise) (line_at l.x l.numbers) (l.turns - l.j) l.j l.bytes
    ≡ puts l.elem (source.assigned l.op) (byte_at l.rise) (line_at l.x l.numbers) l.turns 0 l.fn.bytes
