use Rattle.std.proofs.Common.{◌≡◌, None, drop}
use Rattle.sq_ir.specs.Plans.{setting_of}
use Rattle.sq_rooms.specs.Rivals as spec
use Rattle.sq_rooms.proofs.rivals.behind.Given as goal

abbrev pub invariant-loop-name : goal.invariant-loop-name
invariant-loop-name l =
    spec.behind (setting_of l.plan) l.later l.end l.best (drop l.name-index l.names) ≡ spec.behind (setting_of l.plan) l.later 0 None l.names
