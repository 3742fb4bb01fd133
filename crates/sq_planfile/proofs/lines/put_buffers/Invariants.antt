use Rattle.std.proofs.Common.{◌≡◌, ℕ, List, ◌++◌, map, drop}
use Rattle.sq_ast.specs.Canonical.{all_of}
use Rattle.sq_plantext.specs.Layout.{spell_buffer}
use Rattle.sq_planfile.specs.Written.{buffer_lines}
use Rattle.sq_planfile.proofs.lines.put_buffers.Given as goal

abbrev pub invariant-loop-n : goal.invariant-loop-n
invariant-loop-n l = (later : List ℕ) → l.out.items ++ all_of (map spell_buffer (buffer_lines l.n l.offsets (drop l.n l.buffers))) later
    ≡ l.fn.out.items ++ all_of (map spell_buffer (buffer_lines 0 l.offsets l.buffers)) later
