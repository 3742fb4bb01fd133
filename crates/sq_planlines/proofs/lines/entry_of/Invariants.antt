use Rattle.std.proofs.Common.{◌≡◌, ◌++◌, map, drop}
use Rattle.sq_planlines.specs.Narrow.{word}
use Rattle.sq_planlines.proofs.lines.entry_of.Given as goal

abbrev pub invariant-loop-line : goal.invariant-loop-line
invariant-loop-line l = l.entry ++ map (λ a. word a.buffer) (drop l.line-index l.lines) ≡ map (λ a. word a.buffer) l.lines
