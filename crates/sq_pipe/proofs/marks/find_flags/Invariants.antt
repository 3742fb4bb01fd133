use Rattle.std.proofs.Common.{◌≡◌, drop}
use Rattle.sq_pipe.specs.Runs as spec
use Rattle.sq_pipe.proofs.marks.find_flags.Given as goal

abbrev pub invariant-loop-x : goal.invariant-loop-x
invariant-loop-x l = spec.find_flags l.children (drop l.x-index l.list) ≡ spec.find_flags l.children l.list
