-- How an evaluation ends.
use Rattle.std.specs.Prelude.{◌≡◌, List, Result, Ok, Err, reverse}
use Rattle.sq_leaf.specs.declared.shape.Shape.{Shape}
use Rattle.sq_work.specs.Meaning.{Outcome}
use Rattle.sq_flat.specs.declared.form.End.{End}
use Rattle.sq_flat.specs.declared.form.End.TheVariants as inside
use Rattle.sq_flat.specs.declared.flat.FlatEnd.{FlatEnd}
use Rattle.sq_flat.specs.declared.flat.FlatEnd.TheVariants.{Trap, NoMemory}
use Rattle.sq_flat.specs.Held.{Stored, Holds, AreWhole}

-- the trap with its path is that which is meant
abbrev pub IsEnd : FlatEnd → Outcome → Type 0
IsEnd NoMemory outcome = Unit {0}
IsEnd (Trap x) (Ok s) = ⊥
IsEnd (Trap x) (Err y) = (x.trap ≡ y.trap) × (x.path ≡ y.path)

-- the numbers of the iterations are kept with the innermost first while calls return
abbrev pub IsInside : End → Outcome → Type 0
IsInside inside.NoMemory outcome = Unit {0}
IsInside (inside.Trapped x) (Ok s) = ⊥
IsInside (inside.Trapped x) (Err y) = (x.trap ≡ y.trap) × (reverse x.turns.items ≡ y.path)

-- the arrays have these shapes and hold what is meant
abbrev pub HoldsEnd : List Shape → Stored → Outcome → Type 0
HoldsEnd shapes a (Ok s) = (a.shapes ≡ shapes) × AreWhole a × Holds a.shapes a.bytes s
HoldsEnd shapes a (Err y) = ⊥

abbrev pub Evaluates : List Shape → Result Stored FlatEnd → Outcome → Type 0
Evaluates shapes (Ok a) outcome = HoldsEnd shapes a outcome
Evaluates shapes (Err end) outcome = IsEnd end outcome

abbrev pub HoldsInside : List Shape → Stored → Result (Unit {0}) End → Outcome → Type 0
HoldsInside shapes a (Ok x) outcome = HoldsEnd shapes a outcome
HoldsInside shapes a (Err end) outcome = IsInside end outcome
