use Rattle.std.proofs.Common.{rules, ◌≡◌, subst, ◌<◌, ◌++◌, ℕ, List, ◌∷◌}
use Rattle.std.specs.Result.{OnOk}
use Rattle.sq_flat.specs.Blocks.{block_bytes, piece}
use Rattle.sq_flat.proofs.Turning.{next_piece, into_pieces, pieces_block}
use Rattle.sq_flat.proofs.block.+push.Goals as goal

pub push_block-push_pieces-requires : goal.push_block-push_pieces-requires
push_block-push_pieces-requires t c =
    let first : c.args.spans.now ≡ c.in-Some.span.now ∷ c.in-Some.spans.now = search rules in
    let second : c.args.extents.now ≡ c.in-Some-split_first.extent.now ∷ c.in-Some-split_first.extents.now = search rules in
    let its = into_pieces c.args.width _ _ _ _ _ _ _ _ first second c.requires.within c.requires.whole c.piece_size-size.ensures in
    (search rules, (its.is, (its.inside, its.within)))

pub push_block-returns : goal.push_block-returns
push_block-returns t c =
    let first : c.args.spans.now ≡ c.in-Some.span.now ∷ c.in-Some.spans.now = search rules in
    let second : c.args.extents.now ≡ c.in-Some-split_first.extent.now ∷ c.in-Some-split_first.extents.now = search rules in
    let its = into_pieces c.args.width _ _ _ _ _ _ _ _ first second c.requires.within c.requires.whole c.piece_size-size.ensures in
    subst (λ (b : List ℕ). OnOk c.push_pieces.result (c.push_pieces.new.into.items ≡ c.args.into.now.items ++ b))
    (pieces_block c.args.width _ _ _ _ _ _ _ c.args.array.now first second its.is) c.push_pieces.ensures

pub push_pieces-loop-x-preserved : goal.push_pieces-loop-x-preserved
push_pieces-loop-x-preserved t c =
    let below : c.loop-x.x < c.args.span.now.hi = search rules in
    let more : c.push_block.new.into.items ≡ c.loop-x.into.items ++ block_bytes c.args.width c.args.spans.now c.args.extents.now (piece c.loop-x.x c.args.size c.args.array.now) = search rules in
    record {
      items = next_piece (λ (x : ℕ). block_bytes c.args.width c.args.spans.now c.args.extents.now (piece x c.args.size c.args.array.now)) _ _ _ _ _ below more c.loop-x.invariant.items;
    }
