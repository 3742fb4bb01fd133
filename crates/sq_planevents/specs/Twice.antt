-- Whether a strided array gives one place to two of its elements. Places and steps are counted in elements.
use Rattle.std.specs.Prelude.{◌≡◌, ℕ, ◌+◌, ◌-◌, ◌*◌, ◌/◌, ◌%◌, ◌<◌, ◌≤◌, ◌⊎◌, ◌==◌, ◌&&◌, not, nat_lt, Bool, if◌then◌else◌, List, [], ◌∷◌, length}
use Rattle.sq_areas.specs.declared.areas.Step.{Step}

-- so far behind the first element one of them stands
abbrev pub IsOff : List Step → ℕ → Type 0
IsOff [] o = o ≡ 0
IsOff (d ∷ ds) o = (t : ℕ) × (t < d.count) × (r : ℕ) × IsOff ds r × (o ≡ t * d.step + r)

-- two arrays, of which the one begins at x and the other at y, have an element at one place
pub record Meet (ds : List Step) (x y : ℕ) : Type 0 where
  pub one : ℕ
  pub other : ℕ
  pub of_one : IsOff ds one
  pub of_other : IsOff ds other
  pub same : x + one ≡ y + other

-- Two elements stand at one place: of the first step that tells them apart the one has a later turn than the other.
abbrev pub IsTwice : List Step → Type 0
IsTwice [] = ⊥
IsTwice (d ∷ ds) = ((k : ℕ) × (1 ≤ k) × (k < d.count) × Meet ds (k * d.step) 0) ⊎ IsTwice ds

-- how far behind the first element the last one stands
abbrev pub span_of : List Step → ℕ
span_of [] = 0
span_of (d ∷ ds) = (d.count - 1) * d.step + span_of ds

-- no turn before this one brings the arrays together
pub record NoMeet (d : Step) (ds : List Step) (x y turns : ℕ) : Type 0 where
  pub first : (k : ℕ) → k < turns → ¬ Meet ds (x + k * d.step) y
  pub second : (k : ℕ) → k < turns → ¬ Meet ds x (y + k * d.step)

-- each turn that stands within reach of the first is one of these
pub record AreWithin (d : Step) (reach turns : ℕ) : Type 0 where
  pub few : turns ≤ d.count
  pub all : (k : ℕ) → k < d.count → k * d.step ≤ reach → k < turns

-- none of the turns from 1 up to this one stands where another element does
pub record NoTwin (d : Step) (ds : List Step) (turns : ℕ) : Type 0 where
  pub none : (k : ℕ) → 1 ≤ k → k < turns → ¬ Meet ds (k * d.step) 0

-- for each dimension its extent and its stride
abbrev pub turns_of : (extents strides : List ℕ) → List Step
turns_of [] ss = []
turns_of (n ∷ ns) [] = []
turns_of (n ∷ ns) (s ∷ ss) = record { count = n; step = s } ∷ turns_of ns ss

abbrev pub between : ℕ → ℕ → ℕ
between x y = if nat_lt x y then y - x else x - y

-- so many places lie between two turns
abbrev pub leads : Step → ℕ → Bool
leads d far =
    if d.step == 0 then far == 0 && not (d.count == 0) else far % d.step == 0 && nat_lt (far / d.step) d.count

-- the same steps in another order: they have the same places, and two elements at one place in the one where in the other
pub record IsOrder (old new : List Step) : Type 0 where
  pub long : length new ≡ length old
  pub span : span_of new ≡ span_of old
  pub there : (o : ℕ) → IsOff old o → IsOff new o
  pub back : (o : ℕ) → IsOff new o → IsOff old o
  pub twice : IsTwice old → IsTwice new
  pub untwice : IsTwice new → IsTwice old
