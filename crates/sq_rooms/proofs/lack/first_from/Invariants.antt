use Rattle.std.proofs.Common.{◌+◌, ◌*◌, ◌-◌}
use Rattle.sq_ir.specs.Plans.{setting_of}
use Rattle.sq_rooms.specs.Bounds.{NoneBelow}
use Rattle.sq_rooms.proofs.lack.first_from.Given as goal

abbrev pub invariant-loop-later : goal.invariant-loop-later
invariant-loop-later l = NoneBelow (setting_of l.plan) l.names l.bound

abbrev pub decreases-loop-later : goal.decreases-loop-later
decreases-loop-later l = (4294967296 - l.bound.node) * 18446744073709551617 + (18446744073709551616 - l.bound.buffer)
