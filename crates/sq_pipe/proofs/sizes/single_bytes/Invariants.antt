use Rattle.std.proofs.Common.{◌≡◌, ◌+◌, drop, length}
use Rattle.std.specs.List.{filter, range_with_len}
use Rattle.sq_pipe.specs.Greedy.{sizes_of}
use Rattle.sq_pipe.specs.Sums.{has_buffer, single_bytes}
use Rattle.sq_pipe.proofs.sizes.single_bytes.Given as goal

abbrev pub invariant-loop-i : goal.invariant-loop-i
invariant-loop-i l =
    l.sum + sizes_of l.body (filter (has_buffer l.c) (range_with_len l.i (length (drop l.i l.shapes))))
    ≡ single_bytes l.body l.c
