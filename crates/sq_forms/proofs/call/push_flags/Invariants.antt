use Rattle.std.proofs.Common.{◌≡◌, ◌++◌, drop, map}
use Rattle.sq_forms.specs.Calls as spec
use Rattle.sq_forms.proofs.call.push_flags.Given as goal

abbrev pub invariant-loop-flag : goal.invariant-loop-flag
invariant-loop-flag l = l.numbers ++ map spec.bit (drop l.flag-index l.flags) ≡ l.fn.numbers ++ map spec.bit l.flags
