use Rattle.std.proofs.Common.{◌≡◌, ◌+◌, ◌<◌, ◌^◌, take, drop}
use Rattle.sq_nests.specs.Stacks.{capped}
use Rattle.sq_nests.specs.Weights.{weigh_from, weigh}
use Rattle.sq_sums.proofs.scale.weight_of.Given as goal

abbrev pub invariant-loop-i : goal.invariant-loop-i
invariant-loop-i l = (l.sum < 2 ^ 64)
    × (capped (l.sum + weigh_from l.scale.buffers.now l.scale.once (take l.i l.named) (drop l.i l.named))
    ≡ capped (weigh l.scale.buffers.now l.scale.once l.named))
