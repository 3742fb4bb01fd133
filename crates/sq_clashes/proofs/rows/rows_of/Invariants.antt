use Rattle.sq_clashes.specs.Reached.{AreRowsTo}
use Rattle.sq_clashes.proofs.rows.rows_of.Given as goal

abbrev pub invariant-loop-i : goal.invariant-loop-i
invariant-loop-i l = AreRowsTo l.entries l.acts l.i l.rows
