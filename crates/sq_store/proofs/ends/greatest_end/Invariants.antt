use Rattle.std.proofs.Common.{◌≡◌}
use Rattle.sq_store.specs.Ends.{greatest_end_of}
use Rattle.sq_store.proofs.ends.greatest_end.Given as goal

abbrev pub invariant-loop-b : goal.invariant-loop-b
invariant-loop-b l = l.greatest ≡ greatest_end_of l.plan.draft.buffers l.plan.offsets l.level l.b
