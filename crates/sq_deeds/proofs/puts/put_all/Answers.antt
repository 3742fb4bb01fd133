use Rattle.std.proofs.Common.{◌∙◌, sym, length}
use Rattle.sq_leaf.specs.Source as source
use Rattle.sq_columns.specs.Lines.{line_at}
use Rattle.sq_deeds.proofs.Rising.{rise_puts, rise_room}
use Rattle.sq_deeds.proofs.puts.put_all.Goals as goal

pub put_row-requires-clause-room : goal.put_row-requires-clause-room
put_row-requires-clause-room c = record {
  near = c.in-Some.ensures.near;
  slow = c.in-Some.ensures.slow;
  room = rise_room c.args.turns (length c.args.bytes.now) c.args.elem c.args.spots c.args.places.now c.in-Some.rise c.in-Some.ensures c.requires.few c.requires.lies;
}

pub returns-in-Some : goal.returns-in-Some
returns-in-Some c =
    c.put_row.ensures
    ∙ sym (rise_puts c.args.elem (source.assigned c.args.op) c.args.spots c.args.places.now (line_at c.args.x c.args.numbers.now) c.in-Some.rise c.in-Some.ensures c.args.turns c.requires.few c.args.bytes.now)
