use Rattle.std.proofs.Common.{◌≡◌, ◌++◌, drop}
use Rattle.sq_tables.specs.Term.Terms.{set_buffers_from}
use Rattle.sq_draft.specs.Piping.{set_number}
use Rattle.sq_draft.proofs.pipes.push_set.Given as goal

abbrev pub invariant-loop-i : goal.invariant-loop-i
invariant-loop-i l = l.out ++ set_buffers_from (set_number l.set) l.homes l.i (drop l.i l.args)
    ≡ l.fn.out ++ set_buffers_from (set_number l.set) l.homes 0 l.args
