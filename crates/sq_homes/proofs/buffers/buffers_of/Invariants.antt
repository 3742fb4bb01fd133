use Rattle.std.proofs.Common.{◌≡◌, ◌++◌, drop}
use Rattle.sq_homes.specs.Drafts.{buffers_from}
use Rattle.sq_homes.proofs.buffers.buffers_of.Given as goal

abbrev pub invariant-loop-form : goal.invariant-loop-form
invariant-loop-form l = l.out ++ buffers_from l.r l.choices l.form (drop l.form l.bodies)
    ≡ buffers_from l.r l.choices 0 l.bodies
