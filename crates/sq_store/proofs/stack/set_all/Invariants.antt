use Rattle.std.proofs.Common.{◌≡◌, length, drop}
use Rattle.sq_nests.specs.Stacks.{of_level}
use Rattle.sq_nests.specs.Drafts.{size_in}
use Rattle.sq_store.specs.Walk.{top_after, set_all}
use Rattle.sq_store.proofs.stack.set_all.Given as goal

abbrev pub invariant-loop-b : goal.invariant-loop-b
invariant-loop-b l =
    (length l.offsets ≡ length l.buffers)
    × (top_after (of_level l.buffers l.level) (size_in l.buffers) (drop l.b-index l.named) l.next
    ≡ top_after (of_level l.buffers l.level) (size_in l.buffers) l.named l.top)
    × (set_all (of_level l.buffers l.level) (size_in l.buffers) (drop l.b-index l.named) l.next l.offsets
    ≡ set_all (of_level l.buffers l.level) (size_in l.buffers) l.named l.top l.fn.offsets)
