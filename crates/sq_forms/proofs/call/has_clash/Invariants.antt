use Rattle.std.proofs.Common.{◌≡◌, drop}
use Rattle.std.specs.List.{list_any}
use Rattle.sq_forms.specs.Calls as spec
use Rattle.sq_forms.proofs.call.has_clash.Given as goal

abbrev pub invariant-loop-y : goal.invariant-loop-y
invariant-loop-y l = list_any (spec.clashes l.x) (drop l.y-index l.others) ≡ list_any (spec.clashes l.x) l.others
