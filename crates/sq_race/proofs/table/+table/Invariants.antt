use Rattle.std.proofs.Common.{◌≡◌, ◌++◌, List, drop, map}
use Rattle.sq_race.specs.Table as spec
use Rattle.sq_race.specs.declared.map.Map.{Map}
use Rattle.sq_race.proofs.table.+table.Given as goal

abbrev pub invariant-add_stmts-loop-s : goal.invariant-add_stmts-loop-s
invariant-add_stmts-loop-s l =
    (later : List Map) → l.maps ++ spec.maps_of (map spec.portion (drop l.s-index l.list)) l.depth l.call later ≡ l.fn.maps ++ spec.maps_of (map spec.portion l.list) l.depth l.first later
