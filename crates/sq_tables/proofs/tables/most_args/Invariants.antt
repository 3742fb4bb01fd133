use Rattle.std.proofs.Common.{◌≡◌, drop, max}
use Rattle.sq_tables.specs.Cases as cases
use Rattle.sq_tables.proofs.tables.most_args.Given as goal

abbrev pub invariant-loop-row : goal.invariant-loop-row
invariant-loop-row l = max l.most (cases.most_args (drop l.row-index l.instances)) ≡ cases.most_args l.instances
