use Rattle.std.proofs.Common.{◌≡◌, ◌++◌, drop}
use Rattle.sq_tables.specs.Term.Terms.{moves_from}
use Rattle.sq_draft.proofs.args.moves.Given as goal

abbrev pub invariant-loop-i : goal.invariant-loop-i
invariant-loop-i l =
    l.out ++ moves_from l.call.op l.callee.shapes.now l.callee.homes.now l.c l.call.instances.now l.i (drop l.i l.args)
    ≡ moves_from l.call.op l.callee.shapes.now l.callee.homes.now l.c l.call.instances.now 0 l.args
