use Rattle.std.proofs.Common.{◌≡◌, ◌++◌, drop, Ok}
use Rattle.sq_forms.specs.Faults.{and_then}
use Rattle.sq_forms.specs.Args as spec
use Rattle.sq_forms.proofs.args.worths.Given as goal

abbrev pub invariant-loop-e : goal.invariant-loop-e
invariant-loop-e l =
    spec.worths l.list l.env.numbers.now l.env.lists.now ≡ and_then (spec.worths (drop l.e-index l.list) l.env.numbers.now l.env.lists.now) (λ ns. Ok (l.numbers ++ ns))
