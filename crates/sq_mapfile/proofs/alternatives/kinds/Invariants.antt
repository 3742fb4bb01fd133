use Rattle.std.proofs.Common.{◌≡◌, List, drop}
use Rattle.std.specs.Option.{option_copied}
use Rattle.sq_text.specs.Found.{firsts}
use Rattle.sq_mapfile.specs.Faults.{Rule, breach_of}
use Rattle.sq_mapfile.specs.Choices.{kind_rules}
use Rattle.sq_mapfile.proofs.alternatives.kinds.Given as goal

abbrev pub invariant-loop-setting : goal.invariant-loop-setting
invariant-loop-setting l = (later : List Rule)
    → firsts breach_of l.found (kind_rules (option_copied l.required) l.name (drop l.setting-index l.others) later)
    ≡ firsts breach_of l.fn.found (kind_rules (option_copied l.required) l.name l.others later)
