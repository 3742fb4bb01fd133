use Rattle.std.proofs.Common.{◌≡◌, ◌++◌, drop, Ok}
use Rattle.sq_forms.specs.Faults.{and_then}
use Rattle.sq_forms.specs.Stmts as spec
use Rattle.sq_forms.proofs.ranges.bounds.Given as goal

abbrev pub invariant-loop-range : goal.invariant-loop-range
invariant-loop-range l =
    spec.bounds l.ranges l.env.numbers.now l.env.lists.now ≡ and_then (spec.bounds (drop l.range-index l.ranges) l.env.numbers.now l.env.lists.now) (λ ns. Ok (l.numbers ++ ns))
