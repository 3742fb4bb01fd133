use Rattle.std.proofs.Common.{◌≡◌, drop}
use Rattle.sq_text.specs.Found.{firsts}
use Rattle.sq_mapfile.specs.Faults.{breach_of}
use Rattle.sq_mapfile.specs.Notes.{instances_rules}
use Rattle.sq_mapfile.specs.Scopes.{scope_of}
use Rattle.sq_mapfile.proofs.instances.instances.Given as goal

abbrev pub invariant-loop-i : goal.invariant-loop-i
invariant-loop-i l = firsts breach_of l.found (instances_rules (scope_of l.scope) l.i (drop l.i l.list)) ≡ firsts breach_of l.fn.found (instances_rules (scope_of l.scope) 0 l.list)
