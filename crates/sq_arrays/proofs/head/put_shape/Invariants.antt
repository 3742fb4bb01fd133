use Rattle.std.proofs.Common.{◌≡◌, ◌≤◌, ◌*◌, take}
use Rattle.sq_arrays.specs.Heads.{shape_text}
use Rattle.sq_arrays.proofs.head.put_shape.Given as goal

abbrev pub invariant-loop-extent : goal.invariant-loop-extent
invariant-loop-extent l = record {
  room : l.at ≤ 12 * l.extent-index;
  text : take l.at l.line ≡ shape_text (take l.extent-index l.extents);
}
