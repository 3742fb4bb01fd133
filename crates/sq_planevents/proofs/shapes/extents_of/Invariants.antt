use Rattle.std.proofs.Common.{◌≡◌, ◌++◌, map, drop}
use Rattle.sq_ir.specs.DraftLeaves.{extent_of}
use Rattle.sq_planevents.proofs.shapes.extents_of.Given as goal

abbrev pub invariant-loop-extent : goal.invariant-loop-extent
invariant-loop-extent l = l.found ++ map (extent_of l.numbers) (drop l.extent-index l.extents) ≡ map (extent_of l.numbers) l.extents
