-- The term of a program's entry, as a plan, is well formed.
use Rattle.std.specs.Prelude.{◌≡◌, ℕ, ◌≤◌, ◌<◌, ◌^◌, Bool, List, length, map, take}
use Rattle.std.specs.List.{All}
use Rattle.sq_leaf.specs.declared.shape.Shape.{Shape}
use Rattle.sq_blocks.specs.declared.argument.Argument.{Argument}
use Rattle.sq_spec.specs.declared.body.FormBody.{FormBody}
use Rattle.sq_ir.specs.Unordered.{AllEvents}
use Rattle.sq_ir.specs.Events.{Event, Copy, Fill, Accumulate, Leaf, Leaves}
use Rattle.sq_ir.specs.Written.{Setting, at_root}
use Rattle.sq_ir.specs.Plans.{Meets, IsAllowed}
use Rattle.sq_placed.specs.Pipes.{PipesStand}
use Rattle.sq_placed.specs.declared.home.Homes.{Homes}
use Rattle.sq_placed.specs.Tables.{entry_placed}
use Rattle.sq_cells.specs.Tree.{Cause}
use Rattle.sq_cells.specs.Alike.{MayRun}
use Rattle.sq_term.specs.Terms.{entry_term, entry_row, buffer_or}
use Rattle.sq_term.specs.Stands.{AreLeveled}
use Rattle.sq_program_laws.specs.TermLaws.Fits.{Bounds, AreBounds, IsMachine, TabledBody, AreTabled, NodeAt}
use Rattle.sq_program_laws.specs.TermLaws.Roomy.{RowFits, AreRoomy, EntryFits}
use Rattle.sq_program_laws.specs.PlanLaws.Entry.{plan_tree, IsPlan}
use Rattle.sq_program_laws.specs.PlanLaws.Room.{IsRoomy}
use Rattle.sq_program_laws.specs.TermLaws.Held.{AreHeldInside}
use Rattle.sq_program_laws.specs.TermLaws.Overlapping.{OverlapsStand}
use Rattle.sq_program_laws.specs.Rows.{FormsFit}
use Rattle.sq_program_laws.specs.Entry.{entry_shapes}
use Rattle.sq_draft_laws.specs.Scope.{InScope, HomesAreNear}
use Rattle.sq_draft_laws.specs.Paths.{PathsFit, LeavesAreSmall}

-- What the entry's actions name is in scope, with the entry's buffers in scope round it.
abbrev pub SlotsAreInScope : Type 0
SlotsAreInScope = (s : Setting) (most : Bounds) → AreBounds most → (last nodes : ℕ) (level_of : ℕ → ℕ)
    → IsMachine s most last (NodeAt nodes level_of)
    → (bodies : ℕ → FormBody) (homes : ℕ → Homes) (level : ℕ → ℕ) → AreLeveled s bodies homes level
    → AreTabled s most last bodies homes level → AreRoomy s bodies homes → HomesAreNear bodies homes
    → level 0 ≡ 0 → s.level 0 ≡ 0 → NodeAt nodes level_of 0 0
    → (n : ℕ) (args : List Argument)
    → RowFits bodies homes (take (length (homes 0).params) (bodies 0).arrays) (entry_row args)
    → Meets s (InScope s) (entry_term bodies homes n args) at_root (map buffer_or (homes 0).params)

-- In tables that fit no lower call has a parameter in the caller's array.
abbrev pub FormsAreNear : Type 0
FormsAreNear = (leaves : Leaves Cause) (bodies : ℕ → FormBody) (homes : ℕ → Homes) (mays : ℕ → ℕ → Bool)
    → FormsFit leaves bodies homes mays → AreHeldInside bodies homes → OverlapsStand bodies homes
    → PipesStand bodies homes → HomesAreNear bodies homes

-- ---- paths

-- at most 64 numbers of 32 bits
pub record IsShort (path : List ℕ) : Type 0 where
  pub short : length path ≤ 64
  pub words : All (λ k. k < 2 ^ 32) path

-- a leaf event's path is short
abbrev pub HasPath : Event → Type 0
HasPath (Copy from to bytes) = Unit {0}
HasPath (Fill to elem count v) = Unit {0}
HasPath (Accumulate op elem from to count) = Unit {0}
HasPath (Leaf node code views path) = IsShort path

-- The paths of a plan's leaf calls are short, where few maps stand round them and these begin their bodies not too
-- often.
abbrev pub PathsAreShort : Type 0
PathsAreShort = (s : Setting) (leaves : Leaves Cause) (outer : List Shape) (buffers : List ℕ) (may : ℕ → Bool)
    (bodies : ℕ → FormBody) (homes : ℕ → Homes) (n : ℕ) (args : List Argument)
    → IsPlan s leaves outer buffers may (entry_placed bodies homes n args)
    → (most : Bounds) → most.uses ≤ 2 ^ 32 → (last : ℕ) (level : ℕ → ℕ)
    → ((f : ℕ) → TabledBody most last (level f) (bodies f).body)
    → (round : ℕ → ℕ) → PathsFit bodies round
    → AllEvents HasPath (plan_tree s (entry_placed bodies homes n args) outer buffers)

-- ---- the whole

-- Where the events of the entry's plan may run, lie inside their nodes and have short paths, its term is well formed.
abbrev pub PlansAreWellFormed : Type 0
PlansAreWellFormed = (s : Setting) (leaves : Leaves Cause) (most : Bounds) → AreBounds most
    → (last nodes : ℕ) (level_of : ℕ → ℕ) → IsMachine s most last (NodeAt nodes level_of)
    → (bodies : ℕ → FormBody) (homes : ℕ → Homes) (level : ℕ → ℕ) → AreLeveled s bodies homes level
    → AreTabled s most last bodies homes level → AreRoomy s bodies homes → HomesAreNear bodies homes
    → level 0 ≡ 0 → s.level 0 ≡ 0 → NodeAt nodes level_of 0 0
    → EntryFits s (homes 0).params (take (length (homes 0).params) (bodies 0).arrays)
    → LeavesAreSmall bodies → ((node : ℕ) → s.capacity node ≤ 2 ^ 32)
    → (n : ℕ) (args : List Argument) → length args ≡ length (homes 0).params
    → RowFits bodies homes (take (length (homes 0).params) (bodies 0).arrays) (entry_row args)
    → AllEvents (MayRun leaves)
    (plan_tree s (entry_placed bodies homes n args) (entry_shapes bodies args) (map buffer_or (homes 0).params))
    → AllEvents (IsRoomy s.capacity)
    (plan_tree s (entry_placed bodies homes n args) (entry_shapes bodies args) (map buffer_or (homes 0).params))
    → AllEvents HasPath
    (plan_tree s (entry_placed bodies homes n args) (entry_shapes bodies args) (map buffer_or (homes 0).params))
    → Meets s (IsAllowed leaves s) (entry_term bodies homes n args) at_root (map buffer_or (homes 0).params)
