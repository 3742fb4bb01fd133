use Rattle.std.proofs.Common.{◌≡◌, ◌++◌, map, drop}
use Rattle.sq_passes.specs.Choices.{in_buffer}
use Rattle.sq_passes.proofs.choices.no_flags.Given as goal

abbrev pub invariant-loop-flag : goal.invariant-loop-flag
invariant-loop-flag l = l.out ++ map in_buffer (drop l.flag-index l.flags) ≡ map in_buffer l.flags
