use Rattle.std.proofs.Common.{◌≡◌, drop}
use Rattle.sq_planevents.specs.Scoped.{are_at}
use Rattle.sq_planevents.proofs.lines.Lines.are_at.Given as goal

abbrev pub invariant-loop-buffer : goal.invariant-loop-buffer
invariant-loop-buffer l = are_at l.self.text.now l.level (drop l.buffer-index l.buffers) ≡ are_at l.self.text.now l.level l.buffers
