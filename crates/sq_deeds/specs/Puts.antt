-- Numbers of turns that are put at elements, and elements that go up.
use Rattle.std.specs.Prelude.{◌≡◌, ℕ, zero, suc, ◌+◌, ◌*◌, ◌^◌, ◌<◌, ◌≤◌, List, ℤ, pos}
use Rattle.sq_num.specs.declared.Elem.{Elem}
use Rattle.sq_num.specs.Elements.{width}
use Rattle.sq_columns.specs.declared.line.Line.{Line}
use Rattle.sq_columns.specs.Lines.{line_at, first_byte}
use Rattle.sq_leaf.specs.Spots.{load, store}
use Rattle.sq_deeds.specs.declared.rise.Rise.{Rise}

-- the element of this turn lies between two bytes of the memory
pub record LiesIn (low high : ℕ) (e : Elem) (l : Line) (column : List ℤ) (j : ℕ) : Type 0 where
  pub is : line_at l column j ≡ pos (first_byte l column j)
  pub from : low ≤ first_byte l column j
  pub ends : first_byte l column j + width e ≤ high

-- turn j puts its number at its element, assigned by g
abbrev pub put_turn : Elem → (ℤ → ℤ → ℤ) → (ℕ → ℕ) → (ℕ → ℤ) → ℕ → List ℕ → List ℕ
put_turn e g s x j c = store (record { elem = e; at = s j }) (g (load (record { elem = e; at = s j }) c) (x j)) c

-- n turns from turn j on
abbrev pub puts : Elem → (ℤ → ℤ → ℤ) → (ℕ → ℕ) → (ℕ → ℤ) → ℕ → ℕ → List ℕ → List ℕ
puts e g s x zero j c = c
puts e g s x (suc n) j c = puts e g s x n (suc j) (put_turn e g s x j c)

-- ---- first bytes that go up

-- the number of each turn of a line is a first byte that goes up by this step
pub record IsRise (r : Rise) (l : Line) : Type 0 where
  pub near : r.at < 2 ^ 62
  pub slow : r.step ≤ 2 ^ 32
  pub is : (column : List ℤ) (j : ℕ) → j < 256 → line_at l column j ≡ pos (r.at + r.step * j)

-- the same of a ramp
pub record IsRiseFrom (r : Rise) (a d : ℤ) : Type 0 where
  pub near : r.at < 2 ^ 62
  pub slow : r.step ≤ 2 ^ 32
  pub first : a ≡ pos r.at
  pub each : d ≡ pos r.step
