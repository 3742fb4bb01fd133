use Rattle.std.proofs.Common.{◌≡◌, drop}
use Rattle.sq_text.specs.declared.code.Phase.TheVariants.{Plan}
use Rattle.sq_text.specs.Found.{firsts, nothing_found}
use Rattle.sq_planheads.specs.Buffers.{buffer_breach}
use Rattle.sq_planheads.proofs.buffers.first_buffer_fault.Given as goal

abbrev pub invariant-loop-buffer : goal.invariant-loop-buffer
invariant-loop-buffer l = firsts (buffer_breach l.last) l.first (drop l.buffer-index l.buffers) ≡ firsts (buffer_breach l.last) (nothing_found Plan) l.buffers
