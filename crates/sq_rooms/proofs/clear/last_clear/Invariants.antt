use Rattle.std.proofs.Common.{◌-◌, ◌≤◌, length}
use Rattle.sq_ir.specs.Plans.{setting_of}
use Rattle.sq_rooms.specs.Bounds.{NoneBelow}
use Rattle.sq_rooms.proofs.clear.last_clear.Given as goal

abbrev pub invariant-loop-low : goal.invariant-loop-low
invariant-loop-low l = (l.low ≤ l.high) × (l.high ≤ length l.keys) × NoneBelow (setting_of l.plan) l.names l.clear

abbrev pub decreases-loop-low : goal.decreases-loop-low
decreases-loop-low l = l.high - l.low
