use Rattle.std.proofs.Common.{◌≡◌, ℕ, List, drop, map}
use Rattle.sq_text.specs.Names.{item_of, kept, first_from}
use Rattle.sq_forms.proofs.tables.RoutesByTask.new.Given as goal

abbrev pub invariant-loop-i : goal.invariant-loop-i
invariant-loop-i l = (n : List ℕ) → kept (item_of l.first n) (first_from l.i (map (λ r. r.task) (drop l.i l.list)) n) ≡ first_from 0 (map (λ r. r.task) l.list) n
