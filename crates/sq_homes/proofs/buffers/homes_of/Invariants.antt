use Rattle.std.proofs.Common.{◌≡◌, ◌++◌, drop}
use Rattle.sq_homes.specs.Drafts.{homes_from}
use Rattle.sq_homes.proofs.buffers.homes_of.Given as goal

abbrev pub invariant-loop-form : goal.invariant-loop-form
invariant-loop-form l =
    l.out ++ homes_from l.r l.choices l.form l.before.base l.before.code (drop l.form l.bodies)
    ≡ homes_from l.r l.choices 0 0 0 l.bodies
