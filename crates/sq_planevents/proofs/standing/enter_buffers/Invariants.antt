use Rattle.std.proofs.Common.{◌≡◌, ◌++◌, drop}
use Rattle.sq_planevents.proofs.standing.enter_buffers.Given as goal

abbrev pub invariant-loop-buffer : goal.invariant-loop-buffer
invariant-loop-buffer l = l.scopes ++ drop l.buffer-index l.buffers ≡ l.fn.scopes ++ l.buffers
