use Rattle.std.proofs.Common.{◌≡◌, drop}
use Rattle.sq_sched.specs.Forms.{any_acts}
use Rattle.sq_sched.proofs.sizes.any_of.Given as goal

abbrev pub invariant-loop-part : goal.invariant-loop-part
invariant-loop-part l = any_acts (drop l.part-index l.parts) ≡ any_acts l.parts
