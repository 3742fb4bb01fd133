use Rattle.std.proofs.Common.{◌≡◌, ◌++◌, drop}
use Rattle.sq_forms.proofs.forms.copy_dims.Given as goal

abbrev pub invariant-loop-dims : goal.invariant-loop-dims
invariant-loop-dims l = l.copy ++ drop l.dims-index l.list ≡ l.list
