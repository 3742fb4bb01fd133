use Rattle.std.proofs.Common.{◌≡◌, length}
use Rattle.sq_tables.specs.Cases.{AreTables}
use Rattle.sq_tables.proofs.tables.tables_of.Given as goal

abbrev pub invariant-loop-i : goal.invariant-loop-i
invariant-loop-i l = record {
  many : length l.out ≡ l.i;
  each : AreTables l.views l.instances l.out;
}
