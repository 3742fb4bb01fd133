-- A run of a leaf's code over the bytes of a node, and the leaf's event.
use Rattle.std.specs.Prelude.{◌≡◌, ℕ, ◌^◌, ◌<◌, ◌≤◌, false, List, length, map, get_or, Option, Some, None, Result, Ok, Err}
use Rattle.std.specs.List.{All}
use Rattle.sq_leaf.specs.Rect.declared.view.View.{View}
use Rattle.sq_leaf.specs.declared.trap.Trap.{Trap}
use Rattle.sq_leaf.specs.Source.{Arrays}
use Rattle.sq_leaf.specs.Views as views
use Rattle.sq_leaf.specs.Views.{CanRun, Shows, Keeps}
use Rattle.sq_leaf.specs.Leaf.{Leaf as LeafSource, written_of, leaf_value, IsMeant}
use Rattle.sq_ir.specs.Runs as runs
use Rattle.sq_ir.specs.Events.{Bytes, Leaf, shape_of, in_views, written_views, after_event, trap_event}
use Rattle.sq_ir.specs.Plans.{IsLeafCall}
use Rattle.sq_ir.specs.DraftLeaves.{shapes_of, leaf_at, leaves_of}
use Rattle.sq_ir.specs.declared.plan.Draft.{Draft}

-- the node begins with these bytes
pub record Holds (node : ℕ) (m : Bytes) (bytes : List ℕ) : Type 0 where
  pub each : (k : ℕ) → k < length bytes → m (record { node = node; at = k }) ≡ get_or bytes k 0

abbrev pub AreBytes : List ℕ → Type 0
AreBytes bytes = (k : ℕ) → get_or bytes k 0 < 256

-- a run of the leaf that was allowed came from the bytes `before` to this answer and the bytes `after`
pub record HasRun (l : LeafSource) (vs : List View) (before after : List ℕ) (answer : Result Unit Trap) : Type 0 where
  pub may : CanRun (length before) vs (written_of l.variant)
  pub meant : (a : Arrays) → Shows vs before a → IsMeant vs after answer (leaf_value l (map views.shape_of vs) a)
  pub kept : Keeps vs (written_of l.variant) before after
  pub bytes : AreBytes after

abbrev pub trap_at : (path : List ℕ) → Result Unit Trap → Option (runs.Trap Trap)
trap_at path (Ok x) = None
trap_at path (Err t) = Some (record { path = path; cause = t })

-- The event of a leaf of a draft, at a node that begins with the bytes before its run, traps as the run does; where it
-- doesn't trap it leaves there the bytes after the run.
abbrev pub RunsAreEvents : Type 0
RunsAreEvents =
    (d : Draft) (code : ℕ) (l : LeafSource) → leaf_at d code ≡ Some l
    → (vs : List View) (before after : List ℕ) (answer : Result Unit Trap) → HasRun l vs before after answer
    → (node : ℕ) (m : Bytes) (path : List ℕ) → Holds node m before
    → (trap_event (leaves_of d) (Leaf node code vs path) m ≡ trap_at path answer) × (answer ≡ Ok tt → Holds node (after_event (leaves_of d) (Leaf node code vs path) m) after)

-- there is such a leaf, the views have the shapes of its arrays, and its code can run over so many bytes
pub record CanBeRun (d : Draft) (code size : ℕ) (vs : List View) : Type 0 where
  pub leaf : LeafSource
  pub there : leaf_at d code ≡ Some leaf
  pub shapes : shapes_of leaf ≡ map shape_of vs
  pub may : CanRun size vs (written_of leaf.variant)

-- What a plan asks of a leaf call is enough to run the code, at a node of fewer than 2^62 bytes.
abbrev pub CallsCanBeRun : Type 0
CallsCanBeRun =
    (d : Draft) (code capacity : ℕ) (vs : List View) (path : List ℕ) → IsLeafCall (leaves_of d) capacity code vs path
    → capacity < 2 ^ 62 → All (λ v. length v.extents ≤ 3) vs → CanBeRun d code capacity vs

-- A run of a leaf, whether it traps or not, changes no byte of its node outside the views that its event writes.
abbrev pub RunsKeepOthers : Type 0
RunsKeepOthers =
    (d : Draft) (code : ℕ) (l : LeafSource) → leaf_at d code ≡ Some l
    → (vs : List View) (before after : List ℕ) → Keeps vs (written_of l.variant) before after
    → (node k : ℕ) → in_views node (written_views (leaves_of d) code vs) (record { node = node; at = k }) ≡ false
    → get_or after k 0 ≡ get_or before k 0
