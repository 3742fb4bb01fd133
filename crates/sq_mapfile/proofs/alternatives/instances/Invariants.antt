use Rattle.std.proofs.Common.{◌≡◌, List, drop}
use Rattle.sq_text.specs.Found.{firsts}
use Rattle.sq_mapfile.specs.Faults.{Rule, breach_of}
use Rattle.sq_mapfile.specs.Choices.{instances_rules, instances_count}
use Rattle.sq_mapfile.specs.Scopes.{scope_of}
use Rattle.sq_mapfile.proofs.alternatives.instances.Given as goal

abbrev pub invariant-loop-x : goal.invariant-loop-x
invariant-loop-x l = record {
  rules : (later : List Rule)
      → firsts breach_of l.found (instances_rules (scope_of l.scope) l.count (drop l.x-index l.list) later)
      ≡ firsts breach_of l.fn.found (instances_rules (scope_of l.scope) 1 l.list later);
  count : instances_count l.count (drop l.x-index l.list) ≡ instances_count 1 l.list;
}
