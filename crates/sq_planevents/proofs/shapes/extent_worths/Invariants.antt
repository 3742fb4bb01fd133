use Rattle.std.proofs.Common.{◌≡◌, ◌++◌, [], map, drop}
use Rattle.sq_ir.specs.DraftLeaves.{nat_worth}
use Rattle.sq_blocks.specs.Constants.{worth}
use Rattle.sq_planevents.proofs.shapes.extent_worths.Given as goal

abbrev pub invariant-loop-extent : goal.invariant-loop-extent
invariant-loop-extent l = l.found ++ map (λ e. nat_worth (worth e l.numbers [])) (drop l.extent-index l.extents) ≡ map (λ e. nat_worth (worth e l.numbers [])) l.extents
