use Rattle.std.proofs.Common.{◌≡◌, drop}
use Rattle.sq_mapfile.specs.Gathering as spec
use Rattle.sq_mapfile.proofs.required.+calls.Given as goal

abbrev pub invariant-stmts_calls-loop-s : goal.invariant-stmts_calls-loop-s
invariant-stmts_calls-loop-s l = spec.stmts_calls (drop l.s-index l.list) l.names.keys ≡ spec.stmts_calls l.list l.fn.names.keys
