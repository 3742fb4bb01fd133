use Rattle.std.proofs.Common.{◌≡◌, drop}
use Rattle.std.specs.Prelude.{max}
use Rattle.sq_sched.specs.Forms.{greatest}
use Rattle.sq_sched.proofs.sizes.greatest_of.Given as goal

abbrev pub invariant-loop-part : goal.invariant-loop-part
invariant-loop-part l = max l.most (greatest (drop l.part-index l.parts)) ≡ greatest l.parts
