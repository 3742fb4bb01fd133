use Rattle.std.proofs.Common.{◌≡◌, List, drop}
use Rattle.std.specs.Option.{option_copied}
use Rattle.sq_text.specs.Found.{firsts}
use Rattle.sq_mapfile.specs.Faults.{Rule, breach_of}
use Rattle.sq_mapfile.specs.Choices.{items_rules, items_count}
use Rattle.sq_mapfile.proofs.alternatives.items.Given as goal

abbrev pub invariant-loop-x : goal.invariant-loop-x
invariant-loop-x l = record {
  rules : (later : List Rule)
      → firsts breach_of l.found (items_rules (option_copied l.required) l.count (drop l.x-index l.items) later)
      ≡ firsts breach_of l.fn.found (items_rules (option_copied l.required) l.before l.items later);
  count : items_count l.count (drop l.x-index l.items) ≡ items_count l.before l.items;
}
