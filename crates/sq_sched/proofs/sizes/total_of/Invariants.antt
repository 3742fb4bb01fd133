use Rattle.std.proofs.Common.{◌≡◌, ◌+◌, ◌≤◌, drop}
use Rattle.sq_sched.specs.Forms.{most_frames, stop, total}
use Rattle.sq_sched.proofs.sizes.total_of.Given as goal

abbrev pub invariant-loop-part : goal.invariant-loop-part
invariant-loop-part l = record {
  sum : stop (l.sum + total (drop l.part-index l.parts)) ≡ total l.parts;
  few : l.sum ≤ most_frames;
}
