use Rattle.std.proofs.Common.{rules, ◌∙◌, ap, get_or}
use Rattle.std.specs.Option.{option_copied}
use Rattle.sq_tables.specs.Placed.declared.home.Home.TheVariants.{InPlace}
use Rattle.sq_tables.specs.Placed.Tables.{no_shape}
use Rattle.sq_tables.specs.Term.Terms.{offsets, reduces}
use Rattle.sq_draft.proofs.MadeMoves.{move_made}
use Rattle.sq_draft.proofs.args.move_at.Goals as goal

pub returns : goal.returns
returns c =
    c.in_ok-made.ensures
    ∙ move_made c.args.a.now.mode c.reduces.result (reduces c.args.call.now.op c.args.a.now)
    c.in-Some.shape.now (get_or c.args.callee.now.shapes.now c.args.i no_shape)
    c.home_at-home.result (get_or c.args.callee.now.homes.now c.args.i InPlace)
    c.in_ok-table.table (offsets c.args.c.now.views c.args.call.now.instances.now c.args.i)
    c.args.c.now.ordinal c.args.v.now c.in_ok-outside.outside
    c.reduces.ensures (c.shape_at.ensures.its c.in-Some.shape.now (ap option_copied c.in-Some.is)) c.home_at-home.ensures
    (search rules) c.in_ok-outside.ensures
