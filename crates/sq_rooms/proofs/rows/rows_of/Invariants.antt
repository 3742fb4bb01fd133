use Rattle.std.proofs.Common.{◌≡◌, ◌++◌, drop, map}
use Rattle.sq_ir.specs.Plans.{setting_of}
use Rattle.sq_rooms.specs.Reaches as spec
use Rattle.sq_rooms.proofs.rows.rows_of.Given as goal

abbrev pub invariant-loop-name : goal.invariant-loop-name
invariant-loop-name l =
    l.rows ++ map (spec.row_of (setting_of l.plan) l.bound) (drop l.name-index l.names) ≡ map (spec.row_of (setting_of l.plan) l.bound) l.names
