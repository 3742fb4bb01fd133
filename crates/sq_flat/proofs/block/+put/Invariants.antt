use Rattle.std.proofs.Common.{◌≡◌, ◌*◌, ◌≤◌, length, ℕ, ◌+◌, ◌-◌}
use Rattle.sq_flat.specs.Blocks.{with_bytes, with_pieces, pieces_put, piece}
use Rattle.sq_flat.proofs.block.+put.Given as goal

abbrev pub decreases-put_block : goal.decreases-put_block
decreases-put_block l = 2 * length l.spans.now

abbrev pub decreases-put_pieces : goal.decreases-put_pieces
decreases-put_pieces l = 2 * length l.spans.now + 1

abbrev pub invariant-put_pieces-loop-x : goal.invariant-put_pieces-loop-x
invariant-put_pieces-loop-x l = record {
  from : l.span.lo ≤ l.x;
  size : length l.array ≡ length l.fn.array;
  left : with_pieces (λ (x : ℕ). with_bytes l.width l.spans l.extents (piece (x - l.span.lo) l.from l.block)) l.size (l.span.hi - l.x) l.x l.array ≡ pieces_put l.width l.spans l.extents l.size l.from l.block l.span l.fn.array;
}
