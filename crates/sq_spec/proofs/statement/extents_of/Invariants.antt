use Rattle.std.proofs.Common.{◌≡◌, ◌++◌, drop}
use Rattle.sq_form_laws.specs.Forms.Calls.{extents_of}
use Rattle.sq_spec.proofs.statement.extents_of.Given as goal

abbrev pub invariant-loop-x : goal.invariant-loop-x
invariant-loop-x l = l.extents ++ extents_of (drop l.x-index l.list) ≡ extents_of l.list
