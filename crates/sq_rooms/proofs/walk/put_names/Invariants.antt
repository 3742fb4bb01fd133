use Rattle.std.proofs.Common.{◌≡◌, ◌++◌, drop}
use Rattle.sq_rooms.specs.Names.{names_at}
use Rattle.sq_rooms.proofs.walk.put_names.Given as goal

abbrev pub invariant-loop-buffer : goal.invariant-loop-buffer
invariant-loop-buffer l =
    l.names ++ names_at l.node l.first l.end (drop l.buffer-index l.buffers) ≡ l.fn.names ++ names_at l.node l.first l.end l.buffers
