use Rattle.std.proofs.Common.{◌≡◌, ◌++◌, drop}
use Rattle.sq_term.specs.Placed.Tables as tables
use Rattle.sq_tables.proofs.leaving.leaving_args.Given as goal

abbrev pub invariant-loop-position : goal.invariant-loop-position
invariant-loop-position l = l.out ++ tables.leaving_args l.loops l.homes l.position (drop l.position l.args)
    ≡ tables.leaving_args l.loops l.homes 0 l.args
