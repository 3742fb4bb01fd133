use Rattle.std.proofs.Common.{◌≡◌, ◌∙◌, ap, Some, map, length, slice_get}
use Rattle.sq_leaf.specs.Views.{shape_of}
use Rattle.sq_flat.specs.Held.{split}
use Rattle.sq_flat.proofs.Fitting.{read}
use Rattle.sq_flat.proofs.Holding.{part_inside, stored_put}
use Rattle.sq_flat.proofs.arrays.put_in.Goals as goal

pub put_part-requires : goal.put_part-requires
put_part-requires c =
    let there : slice_get c.args.views.now c.args.array ≡ Some c.index-views-array.result = read c.args.views.now c.args.array c.index-views-array.result c.requires.there c.index-views-array.is in
    (part_inside c.args.views.now c.args.array c.args.at (length c.args.part.now) c.index-views-array.result c.args.bytes.now c.requires.stored there c.requires.part).1

pub returns : goal.returns
returns c =
    let there : slice_get c.args.views.now c.args.array ≡ Some c.index-views-array.result = read c.args.views.now c.args.array c.index-views-array.result c.requires.there c.index-views-array.is in
    let inside = part_inside c.args.views.now c.args.array c.args.at (length c.args.part.now) c.index-views-array.result c.args.bytes.now c.requires.stored there c.requires.part in
    ap (split (map shape_of c.args.views.now)) c.put_part.ensures
    ∙ stored_put c.args.views.now c.args.array c.args.at c.index-views-array.result c.args.part.now c.args.bytes.now c.requires.stored there inside.0
