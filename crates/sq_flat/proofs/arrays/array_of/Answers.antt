use Rattle.std.proofs.Common.{◌≡◌, ◌∙◌, Some, slice_get}
use Rattle.sq_flat.proofs.Fitting.{read}
use Rattle.sq_flat.proofs.Holding.{stored_placed, stored_array}
use Rattle.sq_flat.proofs.arrays.array_of.Goals as goal

pub bytes_of-requires : goal.bytes_of-requires
bytes_of-requires c =
    let there : slice_get c.args.views.now c.args.array ≡ Some c.index-views-array.result = read c.args.views.now c.args.array c.index-views-array.result c.requires.there c.index-views-array.is in
    (stored_placed c.args.views.now c.args.bytes.now c.requires.stored).each c.args.array c.index-views-array.result there

pub returns : goal.returns
returns c =
    let there : slice_get c.args.views.now c.args.array ≡ Some c.index-views-array.result = read c.args.views.now c.args.array c.index-views-array.result c.requires.there c.index-views-array.is in
    c.bytes_of.ensures ∙ stored_array c.args.views.now c.args.bytes.now c.args.array c.index-views-array.result c.requires.stored there
