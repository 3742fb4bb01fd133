use Rattle.std.proofs.Common.{◌≡◌, ◌++◌, map, drop}
use Rattle.sq_planlines.proofs.lines.offsets_of.Given as goal

abbrev pub invariant-loop-line : goal.invariant-loop-line
invariant-loop-line l = l.offsets ++ map (λ b. b.offset) (drop l.line-index l.lines) ≡ map (λ b. b.offset) l.lines
