use Rattle.std.proofs.Common.{◌≡◌, ◌++◌, map, drop}
use Rattle.sq_blocks.specs.Names.{number_of}
use Rattle.sq_plantext.specs.Grammar.{binding}
use Rattle.sq_planfile.proofs.heads.bound.Given as goal

abbrev pub invariant-loop-name : goal.invariant-loop-name
invariant-loop-name l =
    l.bindings ++ map (λ n. binding n (number_of l.numbers n)) (drop l.name-index l.names) ≡ map (λ n. binding n (number_of l.numbers n)) l.names
