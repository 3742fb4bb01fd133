use Rattle.std.proofs.Common.{◌≡◌, ℕ, List, drop, map}
use Rattle.sq_text.specs.Names.{item_of, kept, first_from}
use Rattle.sq_forms.proofs.tables.SettingsByName.new.Given as goal

abbrev pub invariant-loop-i : goal.invariant-loop-i
invariant-loop-i l = (n : List ℕ) → kept (item_of l.first n) (first_from l.i (map (λ t. t.name) (drop l.i l.list)) n) ≡ first_from 0 (map (λ t. t.name) l.list) n
