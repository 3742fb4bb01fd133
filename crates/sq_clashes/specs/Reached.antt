-- What the rows of events reach: at least all that the events touch.
use Rattle.std.specs.Prelude.{◌≡◌, ℕ, ◌+◌, ◌<◌, ◌≤◌, Option, Some, List, length, slice_get}
use Rattle.sq_ir.specs.declared.plan.Plan.{Plan}
use Rattle.sq_areas.specs.Areas.{HasByte}
use Rattle.sq_areas.specs.declared.areas.Step.{Step}
use Rattle.sq_touches.specs.declared.touch.Touch.{Touch}
use Rattle.sq_touches.specs.declared.act.Act.{Act}
use Rattle.sq_plan_check.specs.Shown.{HaveWords}
use Rattle.sq_plan_check.specs.Acted.{AllHaveViews, AreActs}
use Rattle.sq_plan_check.specs.Pairs.{IsFirstPair}
use Rattle.sq_plan_check.specs.declared.entry.Entry.{Entry}
use Rattle.sq_plan_check.specs.declared.pairs.Pair.{Pair}
use Rattle.sq_plan_check.specs.declared.reach.Reach.{Reach}
use Rattle.sq_plan_check.specs.declared.reach.Row.{Row}
use Rattle.sq_clashes.specs.Colors.{color_of, own_color}
use Rattle.sq_clashes.specs.Keys.{node_key, path_key}

-- a key is reached in a color
pub record IsReached (reaches : List Reach) (key color : ℕ) : Type 0 where
  pub number : ℕ
  pub reach : Reach
  pub is : slice_get reaches number ≡ Some reach
  pub from : reach.lo ≤ key
  pub below : key < reach.hi
  pub color_is : reach.color ≡ color

-- with further reaches
pub record HaveMore (old new : List Reach) : Type 0 where
  pub kept : (key color : ℕ) → IsReached old key color → IsReached new key color

-- all runs are reached, the first of which begins at a key
pub record ReachRuns (reaches : List Reach) (key run : ℕ) (steps : List Step) (color : ℕ) : Type 0 where
  pub each : (k : ℕ) → HasByte steps key run k → IsReached reaches k color

-- what an event with this own color touches
pub record ReachTouches (reaches : List Reach) (touches : List Touch) (own : ℕ) : Type 0 where
  pub each : (n : ℕ) (t : Touch) → slice_get touches n ≡ Some t → ReachRuns reaches (node_key t.node + t.area.at) t.area.run t.area.steps (color_of t.way own)

pub record ReachPath (reaches : List Reach) (path : Option (List ℕ)) (own : ℕ) : Type 0 where
  pub each : (p : List ℕ) → path ≡ Some p → IsReached reaches (path_key p) own

-- Of an event both numbers of its row are that in the second order.
pub record IsRowOf (own : ℕ) (e : Entry) (a : Act) (row : Row) : Type 0 where
  pub first : row.first ≡ e.second
  pub end : row.end ≡ e.second
  pub touches : ReachTouches row.reaches a.touches own
  pub path : ReachPath row.reaches a.path own

-- the rows of the first so many events
pub record AreRowsTo (entries : List Entry) (acts : List Act) (count : ℕ) (rows : List Row) : Type 0 where
  pub all : length rows ≡ count
  pub each : (i : ℕ) (e : Entry) (a : Act) (row : Row) → slice_get entries i ≡ Some e → slice_get acts i ≡ Some a → slice_get rows i ≡ Some row → IsRowOf (own_color i) e a row

abbrev pub AreRows : List Entry → List Act → List Row → Type 0
AreRows entries acts rows = AreRowsTo entries acts (length entries) rows

-- There aren't too many events, and words reach over what each of them touches.
pub record MayBeCompared (entries : List Entry) : Type 0 where
  pub few : length entries ≤ 65536
  pub views : AllHaveViews entries
  pub words : (i : ℕ) (e : Entry) → slice_get entries i ≡ Some e → HaveWords e.deed

-- the first pair of events of a plan that clash, by what they touch
pub record IsFirstOf (plan : Plan) (entries : List Entry) (found : Option Pair) : Type 0 where
  pub acts : List Act
  pub rows : List Row
  pub are_acts : AreActs plan entries acts
  pub are_rows : AreRows entries acts rows
  pub first : IsFirstPair rows acts found
