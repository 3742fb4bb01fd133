use Rattle.std.proofs.Common.{◌≡◌, ◌*◌, ◌++◌, length, ℕ, ◌+◌, ◌-◌}
use Rattle.std.specs.List.{flat_map, range_with_len}
use Rattle.sq_flat.specs.Blocks.{block_bytes, pieces_bytes, piece}
use Rattle.sq_flat.proofs.block.+push.Given as goal

abbrev pub decreases-push_block : goal.decreases-push_block
decreases-push_block l = 2 * length l.spans.now

abbrev pub decreases-push_pieces : goal.decreases-push_pieces
decreases-push_pieces l = 2 * length l.spans.now + 1

abbrev pub invariant-push_pieces-loop-x : goal.invariant-push_pieces-loop-x
invariant-push_pieces-loop-x l = record {
  items : l.into.items ++ flat_map (λ (x : ℕ). block_bytes l.width l.spans l.extents (piece x l.size l.array)) (range_with_len l.x (l.span.hi - l.x)) ≡ l.fn.into.items ++ pieces_bytes l.width l.spans l.extents l.size l.array l.span;
}
