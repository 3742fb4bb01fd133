use Rattle.std.proofs.Common.{◌≡◌, ◌++◌, map, drop}
use Rattle.sq_homes.specs.Drafts.{buffer_at}
use Rattle.sq_homes.proofs.buffers.push_buffers.Given as goal

abbrev pub invariant-loop-i : goal.invariant-loop-i
invariant-loop-i l = l.out ++ map (buffer_at l.r l.form l.body) (drop l.i-index l.list) ≡ l.fn.out
    ++ map (buffer_at l.r l.form l.body) l.list
