-- The first race of a map, and what is known on the way to it.
use Rattle.std.specs.Prelude.{◌≡◌, ℕ, ◌-◌, ◌<◌, ◌≤◌, ◌⊎◌, Bool, true, false, List, length, slice_get, slice_index_or, Option, Some, None, if◌then◌else◌}
use Rattle.sq_race.specs.Blocks.{Cell, lies, whole}
use Rattle.sq_race.specs.Layers.{has_any, meets_any}
use Rattle.sq_ast.specs.Modes.{is_written}
use Rattle.sq_race.specs.Accesses.{counts, races, same_run, same_iteration, block_of}
use Rattle.sq_race.specs.Marks.{blank, touched}
use Rattle.sq_race.specs.declared.marks.Marks.{Marks}
use Rattle.sq_forms.specs.declared.form.Use.{Use}
use Rattle.sq_race.specs.declared.map.Map.{Map}
use Rattle.sq_race.specs.declared.pairs.Pair.{Pair}

-- each access is of one of so many arrays
pub record AreWithin (arrays : ℕ) (uses : List Use) : Type 0 where
  pub at : (i : ℕ) (a : Use) → slice_get uses i ≡ Some a → a.array < arrays

-- of the first `upto` accesses each is
pub record AreWithinTo (arrays upto : ℕ) (uses : List Use) : Type 0 where
  pub at : (i : ℕ) (a : Use) → i < upto → slice_get uses i ≡ Some a → a.array < arrays

-- the accesses of one run of the map stand together among those of the map
pub record AreTogether (m : Map) (uses : List Use) : Type 0 where
  pub at : (i j k : ℕ) (a b c : Use) → i < j → j < k → slice_get uses i ≡ Some a → slice_get uses j ≡ Some b → slice_get uses k ≡ Some c → counts m a ≡ true → counts m b ≡ true → counts m c ≡ true → same_run m a c ≡ true → same_run m b c ≡ true

pub record CountsAt (m : Map) (uses : List Use) (i : ℕ) : Type 0 where
  pub at : (a : Use) → slice_get uses i ≡ Some a → counts m a ≡ true

-- accesses number `earlier` and `later` race
pub record RaceAt (m : Map) (uses : List Use) (earlier later : ℕ) : Type 0 where
  pub a : Use
  pub b : Use
  pub at_earlier : slice_get uses earlier ≡ Some a
  pub at_later : slice_get uses later ≡ Some b
  pub before : earlier < later
  pub race : races m a b ≡ true

abbrev pub IsFirstPair : Map → List Use → Option Pair → Type 0
IsFirstPair m uses None = (i j : ℕ) → RaceAt m uses i j → ⊥
IsFirstPair m uses (Some p) = RaceAt m uses p.earlier p.later × ((i j : ℕ) → RaceAt m uses i j → (p.later < j) ⊎ ((p.later ≡ j) × (p.earlier ≤ i)))

abbrev pub IsEarliest : Map → List Use → Use → Option ℕ → Type 0
IsEarliest m before b None = (i : ℕ) (a : Use) → slice_get before i ≡ Some a → races m a b ≡ false
IsEarliest m before b (Some e) = ((a : Use) × (slice_get before e ≡ Some a) × (races m a b ≡ true)) × ((i : ℕ) (a : Use) → i < e → slice_get before i ≡ Some a → races m a b ≡ false)

abbrev pub marks_of : List Marks → ℕ → Marks
marks_of marks n = slice_index_or marks n blank

abbrev pub may_race : List Marks → Use → Bool
may_race marks b = meets_any (if is_written b.mode then touched (marks_of marks b.array) else (marks_of marks b.array).written) (block_of b.rect)

-- the access is marked
pub record IsKept (a : Use) (marks : List Marks) : Type 0 where
  pub touched : (c : Cell) → lies c (block_of a.rect) ≡ true → lies c whole ≡ true → has_any (touched (marks_of marks a.array)) c ≡ true
  pub written : is_written a.mode ≡ true → (c : Cell) → lies c (block_of a.rect) ≡ true → lies c whole ≡ true → has_any (marks_of marks a.array).written c ≡ true

-- what was marked stays marked
pub record Stay (old new : List Marks) : Type 0 where
  pub size : length new ≡ length old
  pub kept : (a : Use) → IsKept a old → IsKept a new

-- and the access is
pub record IsMarked (a : Use) (old new : List Marks) : Type 0 where
  pub stay : Stay old new
  pub marked : IsKept a new

pub record AreMarked (m : Map) (uses : List Use) (from to : ℕ) (old new : List Marks) : Type 0 where
  pub stay : Stay old new
  pub marked : (i : ℕ) (a : Use) → from ≤ i → i < to → slice_get uses i ≡ Some a → counts m a ≡ true → IsKept a new

-- Of the first `upto` accesses those from number `since` on are of the iteration of that one, and of those before it
-- the ones of its run are marked.
pub record IsReady (m : Map) (uses : List Use) (upto since : ℕ) (marks : List Marks) : Type 0 where
  pub within : since ≤ upto - 1
  pub first : 0 < since → CountsAt m uses since
  pub current : (i : ℕ) (a f : Use) → since ≤ i → i < upto → slice_get uses i ≡ Some a → slice_get uses since ≡ Some f → counts m a ≡ true → same_iteration m f a ≡ true
  pub earlier : (i : ℕ) (a f : Use) → i < since → slice_get uses i ≡ Some a → slice_get uses since ≡ Some f → counts m a ≡ true → same_run m f a ≡ true → IsKept a marks

-- none of the first `upto` accesses races with this one
pub record NoneWith (m : Map) (before : List Use) (b : Use) (upto : ℕ) : Type 0 where
  pub at : (i : ℕ) (a : Use) → i < upto → slice_get before i ≡ Some a → races m a b ≡ false

-- none of the first `upto` accesses races with an earlier one
pub record NoneYet (m : Map) (uses : List Use) (upto : ℕ) : Type 0 where
  pub at : (i j : ℕ) → j < upto → RaceAt m uses i j → ⊥

-- none of them races with this one
pub record NoneAt (m : Map) (uses : List Use) (later : ℕ) : Type 0 where
  pub at : (i : ℕ) → RaceAt m uses i later → ⊥
