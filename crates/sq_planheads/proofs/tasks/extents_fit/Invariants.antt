use Rattle.std.proofs.Common.{◌≡◌, ◌≤◌, ◌^◌, drop, map}
use Rattle.sq_blocks.specs.Constants.{worth}
use Rattle.sq_ir.specs.DraftLeaves.{nat_worth}
use Rattle.sq_planheads.specs.Extents.{elements_from}
use Rattle.sq_planheads.proofs.tasks.extents_fit.Given as goal

abbrev pub invariant-loop-extent : goal.invariant-loop-extent
invariant-loop-extent l = record {
  left : elements_from l.elements (map (λ e. nat_worth (worth e l.env.numbers.now l.env.lists.now)) (drop l.extent-index l.extents))
      ≡ elements_from 1 (map (λ e. nat_worth (worth e l.env.numbers.now l.env.lists.now)) l.extents);
  within : l.elements ≤ 2 ^ 26;
}
