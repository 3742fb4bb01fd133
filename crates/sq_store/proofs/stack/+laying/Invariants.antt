use Rattle.std.proofs.Common.{◌≡◌, length, drop}
use Rattle.sq_nests.specs.Stacks.{of_level}
use Rattle.sq_nests.specs.Drafts.{size_in}
use Rattle.sq_store.specs.Walk.{lay_all}
use Rattle.sq_store.proofs.stack.+laying.Given as goal

abbrev pub invariant-lay_all-loop-t : goal.invariant-lay_all-loop-t
invariant-lay_all-loop-t l =
    (length l.offsets ≡ length l.buffers)
    × (lay_all (of_level l.buffers l.level) (size_in l.buffers) (drop l.t-index l.ts) l.top l.offsets
    ≡ lay_all (of_level l.buffers l.level) (size_in l.buffers) l.ts l.top l.fn.offsets)
