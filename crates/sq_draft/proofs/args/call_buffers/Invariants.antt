use Rattle.std.proofs.Common.{◌≡◌, ◌++◌, drop}
use Rattle.sq_tables.specs.Term.Terms.{buffers_from}
use Rattle.sq_draft.proofs.args.call_buffers.Given as goal

abbrev pub invariant-loop-i : goal.invariant-loop-i
invariant-loop-i l = l.out ++ buffers_from l.homes l.i (drop l.i l.args) ≡ buffers_from l.homes 0 l.args
