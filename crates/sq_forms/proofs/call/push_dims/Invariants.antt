use Rattle.std.proofs.Common.{◌≡◌, ◌++◌, ◌∷◌, drop, length}
use Rattle.sq_forms.proofs.call.push_dims.Given as goal

abbrev pub invariant-loop-n : goal.invariant-loop-n
invariant-loop-n l = l.numbers ++ drop l.n-index l.list ≡ l.fn.numbers ++ length l.list ∷ l.list
