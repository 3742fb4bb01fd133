-- The first place at which something is bad.
use Rattle.std.specs.Prelude.{◌≡◌, ◌⊎◌, ℕ, Bool, true, false, Option, Some, None, List, map}
use Rattle.sq_text.specs.declared.place.Place.{Place}
use Rattle.sq_text.specs.Places.{IsBefore, is_before}
use Rattle.sq_ir.specs.Written.{at_root}
use Rattle.sq_plantext.specs.declared.text.PlanText.{PlanText}
use Rattle.sq_planfile.specs.Sound.{AreEvents}
use Rattle.sq_planfile.specs.Faults.{IsBadIn}

abbrev pub IsAtOrBefore : Place → Place → Type 0
IsAtOrBefore p q = IsBefore p q ⊎ (p ≡ q)

-- the arrays' buffers, which are in scope round the whole term
abbrev pub entry_of : PlanText → List ℕ
entry_of x = map (λ a. a.buffer) x.arrays

-- all events and scopes are good; or at this place one is bad, and none before it
abbrev pub IsFirstBad : PlanText → Option Place → Type 0
IsFirstBad x None = AreEvents x x.term at_root (entry_of x)
IsFirstBad x (Some p) = IsBadIn x x.term at_root (entry_of x) p × ((q : Place) → IsBadIn x x.term at_root (entry_of x) q → IsAtOrBefore p q)

-- ---- part by part

-- something bad at this place would be the first
abbrev pub comes_first : Option Place → Place → Bool
comes_first None p = true
comes_first (Some q) p = is_before p q

-- something was found, at this place or before it
abbrev pub IsFoundBy : Option Place → Place → Type 0
IsFoundBy None p = ⊥
IsFoundBy (Some q) p = IsAtOrBefore q p

-- What was found before a part that may be bad at places, and what after it: nothing, or the first of all.
pub record Judges (Good : Type 0) (Bad : Place → Type 0) (old new : Option Place) : Type 0 where
  pub good : new ≡ None → (old ≡ None) × Good
  pub bad : (p : Place) → new ≡ Some p → (old ≡ Some p) ⊎ Bad p
  pub first : (p : Place) → (old ≡ Some p) ⊎ Bad p → IsFoundBy new p

-- a test tells whether something holds
pub record Decides (told : Bool) (P : Type 0) : Type 0 where
  pub yes : told ≡ true → P
  pub none : told ≡ false → P → ⊥
