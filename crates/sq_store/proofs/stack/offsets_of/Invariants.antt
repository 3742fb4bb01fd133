use Rattle.std.proofs.Common.{◌≡◌, length, ◌-◌}
use Rattle.sq_nests.specs.Nests.{named_in}
use Rattle.sq_nests.specs.Drafts.{whole}
use Rattle.sq_store.specs.Walk.{lay_from, offsets_of}
use Rattle.sq_store.proofs.stack.offsets_of.Given as goal

abbrev pub invariant-loop-level : goal.invariant-loop-level
invariant-loop-level l =
    (length l.offsets ≡ length l.d.buffers)
    × (lay_from l.d.buffers (named_in (whole l.d)) (8 - l.level) l.level l.offsets ≡ offsets_of l.d)
