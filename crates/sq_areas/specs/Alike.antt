-- Steps that have the same bytes, and the area of a view.
use Rattle.std.specs.Prelude.{◌≡◌, ℕ, ◌+◌, ◌-◌, ◌*◌, ◌<◌, ◌≤◌, ◌^◌, ◌⊎◌, true, List, [], ◌∷◌, ◌++◌}
use Rattle.std.specs.List.{All}
use Rattle.sq_rect.specs.declared.view.View.{View}
use Rattle.sq_ir.specs.Events.{places, is_among}
use Rattle.sq_areas.specs.Areas.{HasByte}
use Rattle.sq_areas.specs.declared.areas.Step.{Step}
use Rattle.sq_areas.specs.declared.areas.Area.{Area}

-- runs of two lengths in two lists of turns have the same bytes, wherever they begin
pub record AreAlike (run : ℕ) (ds : List Step) (other : ℕ) (es : List Step) : Type 0 where
  pub there : (at k : ℕ) → HasByte ds at run k → HasByte es at other k
  pub back : (at k : ℕ) → HasByte es at other k → HasByte ds at run k

-- each has two turns or more
abbrev pub AreMany : List Step → Type 0
AreMany [] = Unit {0}
AreMany (d ∷ ds) = (2 ≤ d.count) × AreMany ds

-- Its turns add no byte: there is one of them, or all are at one place.
abbrev pub IsIdle : Step → Type 0
IsIdle d = (d.count ≡ 1) ⊎ ((d.step ≡ 0) × (0 < d.count))

-- a step was put behind others, or is idle
abbrev pub IsPut : Step → (old new : List Step) → Type 0
IsPut d old new = (IsIdle d × (new ≡ old)) ⊎ ((d.count ≡ 1 → ⊥) × (new ≡ old ++ d ∷ []))

-- The runs of its turns touch or overlap, so they are one run, whose length has a word.
pub record IsJoined (d : Step) (run : ℕ) : Type 0 where
  pub some : 0 < d.count
  pub near : d.step ≤ run
  pub word : run + (d.count - 1) * d.step < 2 ^ 63

-- what the turns reach over behind the first run
abbrev pub span_of : List Step → ℕ
span_of [] = 0
span_of (d ∷ ds) = (d.count - 1) * d.step + span_of ds

-- The area has the bytes of the view.
pub record IsAreaOf (v : View) (a : Area) : Type 0 where
  pub there : (k : ℕ) → is_among (places v) k ≡ true → HasByte a.steps a.at a.run k
  pub back : (k : ℕ) → HasByte a.steps a.at a.run k → is_among (places v) k ≡ true

-- a view with elements, all below a number of bytes
pub record IsBelow (v : View) (bytes : ℕ) : Type 0 where
  pub some : All (λ n. 0 < n) v.extents
  pub below : (k : ℕ) → is_among (places v) k ≡ true → k < bytes
