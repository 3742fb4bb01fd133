use Rattle.std.proofs.Common.{rules, arith, ◌≡◌, ◌∙◌, ◌+◌, ◌-◌, ◌*◌, ◌<◌, ℕ, ◌∷◌}
use Rattle.sq_flat.specs.Blocks.{with_bytes, piece}
use Rattle.sq_flat.proofs.Turning.{next_put, into_pieces, block_pieces, put_whole}
use Rattle.sq_flat.proofs.block.+put.Goals as goal

pub put_block-put_pieces-requires : goal.put_block-put_pieces-requires
put_block-put_pieces-requires t c =
    let first : c.args.spans.now ≡ c.in-Some.span.now ∷ c.in-Some.spans.now = search rules in
    let second : c.args.extents.now ≡ c.in-Some-split_first.extent.now ∷ c.in-Some-split_first.extents.now = search rules in
    let its = into_pieces c.args.width _ _ _ _ _ _ _ _ first second c.requires.within c.requires.whole c.piece_size-size.ensures in
    let block = block_pieces c.args.width _ _ _ _ _ _ first c.requires.within c.requires.block c.piece_size-from.ensures in
    (search rules, (its.is, (block.0, (its.inside, (block.1, its.within)))))

pub put_block-returns : goal.put_block-returns
put_block-returns t c =
    let first : c.args.spans.now ≡ c.in-Some.span.now ∷ c.in-Some.spans.now = search rules in
    let second : c.args.extents.now ≡ c.in-Some-split_first.extent.now ∷ c.in-Some-split_first.extents.now = search rules in
    let its = into_pieces c.args.width _ _ _ _ _ _ _ _ first second c.requires.within c.requires.whole c.piece_size-size.ensures in
    let block = block_pieces c.args.width _ _ _ _ _ _ first c.requires.within c.requires.block c.piece_size-from.ensures in
    c.put_pieces.ensures ∙ put_whole c.args.width _ _ _ _ _ _ _ _ _ _ first second its.is block.0

pub put_pieces-loop-x-preserved : goal.put_pieces-loop-x-preserved
put_pieces-loop-x-preserved t c =
    let below : c.loop-x.x < c.args.span.now.hi = search rules in
    let change = λ (x : ℕ). with_bytes c.args.width c.args.spans.now c.args.extents.now (piece (x - c.args.span.now.lo) c.args.from c.args.block.now) in
    let is : c.loop-x.x * c.args.size + c.args.size - c.loop-x.x * c.args.size ≡ c.args.size = omega arith in
    let changed : c.put_block.new.array ≡ change c.loop-x.x (piece c.loop-x.x c.args.size c.loop-x.array) = search rules in
    record {
      from = search rules;
      size = search rules;
      left = next_put change c.args.size _ _ _ _ _ _ below is changed c.loop-x.invariant.left;
    }
