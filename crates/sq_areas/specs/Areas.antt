-- Where the bytes of strided views stand.
use Rattle.std.specs.Prelude.{ℕ, ◌+◌, ◌*◌, ◌<◌, ◌≤◌, List, [], ◌∷◌}
use Rattle.sq_areas.specs.declared.areas.Step.{Step}
use Rattle.sq_areas.specs.declared.areas.Area.{Area}

-- a byte of the runs: of two turns, the second 8 bytes behind the first, and runs of 4 bytes from byte 16 on, they are
-- 16 to 19 and 24 to 27
abbrev pub HasByte : List Step → (at run byte : ℕ) → Type 0
HasByte [] at run k = (at ≤ k) × (k < at + run)
HasByte (d ∷ ds) at run k = (t : ℕ) × (t < d.count) × HasByte ds (at + t * d.step) run k

-- over how many bytes they reach, at most
abbrev pub reach_of : List Step → (run : ℕ) → ℕ
reach_of [] run = run
reach_of (d ∷ ds) run = d.count * d.step + reach_of ds run

-- a byte from lo up to hi is one of the runs
abbrev pub MeetRun : (lo hi at run : ℕ) → List Step → Type 0
MeetRun lo hi at run ds = (k : ℕ) × (lo ≤ k) × (k < hi) × HasByte ds at run k

-- a byte of the runs is one of the area
abbrev pub Share : (at run : ℕ) → List Step → Area → Type 0
Share at run ds a = (k : ℕ) × HasByte ds at run k × HasByte a.steps a.at a.run k

-- the turns below this one end at lo or before, the first of all ending at a byte
pub record EndsBefore (d : Step) (end lo first : ℕ) : Type 0 where
  pub before : (t : ℕ) → t < first → end + t * d.step ≤ lo

-- the turns from this one on begin at hi or behind
pub record BeginsBehind (d : Step) (at hi next : ℕ) : Type 0 where
  pub behind : (t : ℕ) → next ≤ t → t < d.count → hi ≤ at + t * d.step

-- each turn that may have a byte from lo up to hi is one from the first to the last
pub record HaveAll (d : Step) (at reach lo hi from to : ℕ) : Type 0 where
  pub all : (t : ℕ) → t < d.count → lo < at + t * d.step + reach → at + t * d.step < hi → (from ≤ t) × (t < to)
