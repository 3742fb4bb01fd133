use Rattle.std.proofs.Common.{◌≡◌, ◌++◌, drop, Ok}
use Rattle.sq_forms.specs.Faults.{and_then}
use Rattle.sq_forms.specs.Resolving as spec
use Rattle.sq_forms.proofs.forms.entry_extents.Given as goal

abbrev pub invariant-loop-p : goal.invariant-loop-p
invariant-loop-p l = spec.entry_extents l.sizes l.list ≡ and_then (spec.entry_extents l.sizes (drop l.p-index l.list)) (λ es. Ok (l.extents ++ es))
