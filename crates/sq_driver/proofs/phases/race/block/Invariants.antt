use Rattle.std.proofs.Common.{◌≡◌, take}
use Rattle.sq_driver.proofs.phases.race.block.Given as goal

abbrev pub invariant-loop-span : goal.invariant-loop-span
invariant-loop-span l = l.spans ≡ take l.span-index l.span-items
