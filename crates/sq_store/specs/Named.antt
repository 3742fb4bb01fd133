-- What holds of each buffer that passes a test and that a scope names.
use Rattle.std.specs.Prelude.{ℕ, Bool, List, [], ◌∷◌}
use Rattle.sq_nests.specs.Nests.{End, Both, Open, Named}
use Rattle.sq_nests.specs.Stacks.{those}

abbrev pub Each : (ℕ → Type 0) → List ℕ → Type 0
Each P [] = Unit {0}
Each P (b ∷ bs) = P b × Each P bs

abbrev pub EachNamed : (ℕ → Bool) → (ℕ → Type 0) → Named → Type 0
EachNamed here P End = Unit {0}
EachNamed here P (Both a b) = EachNamed here P a × EachNamed here P b
EachNamed here P (Open bs a) = Each P (those here bs) × EachNamed here P a
