use Rattle.std.proofs.Common.{◌≡◌, ◌+◌, drop, length}
use Rattle.std.specs.List.{filter, range_with_len}
use Rattle.sq_hoist.specs.Chosen.Arrays.{is_moved, others}
use Rattle.sq_pipe.specs.Greedy.{sizes_of}
use Rattle.sq_pipe.proofs.sizes.moved_bytes.Given as goal

abbrev pub invariant-loop-i : goal.invariant-loop-i
invariant-loop-i l =
    l.sum + sizes_of l.body (filter (is_moved l.c) (range_with_len l.i (length (drop l.i l.c.in_place))))
    ≡ sizes_of l.body (others l.c)
