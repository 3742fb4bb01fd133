use Rattle.std.proofs.Common.{◌≡◌, ℕ, List, drop}
use Rattle.sq_text.specs.Names.{item_of, kept}
use Rattle.sq_forms.specs.Tables as spec
use Rattle.sq_forms.proofs.tables.first_of_kind.Given as goal

abbrev pub invariant-loop-i : goal.invariant-loop-i
invariant-loop-i l = (n : List ℕ) → kept (item_of l.first n) (spec.first_of_kind l.kind l.i (drop l.i l.list) n) ≡ spec.first_of_kind l.kind 0 l.list n
