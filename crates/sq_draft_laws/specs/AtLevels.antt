-- The nodes of leaf events are of their forms' levels.
use Rattle.std.specs.Prelude.{◌≡◌, ℕ, List, length, map, take}
use Rattle.sq_leaf.specs.Leaf.{Leaf as LeafSource}
use Rattle.sq_blocks.specs.declared.argument.Argument.{Argument}
use Rattle.sq_spec.specs.declared.body.Body.TheVariants as body
use Rattle.sq_spec.specs.declared.body.FormBody.{FormBody}
use Rattle.sq_ir.specs.Unordered.{AllEvents}
use Rattle.sq_ir.specs.Events.{Event, Copy, Fill, Accumulate, Leaf}
use Rattle.sq_ir.specs.Written.{Setting, at_root, scoped, written}
use Rattle.sq_placed.specs.declared.home.Homes.{Homes}
use Rattle.sq_term.specs.Terms.{entry_term, entry_row, buffer_or}
use Rattle.sq_term.specs.Stands.{AreLeveled}
use Rattle.sq_program_laws.specs.TermLaws.Fits.{Bounds, AreBounds, IsMachine, AreTabled, NodeAt}
use Rattle.sq_program_laws.specs.TermLaws.Roomy.{RowFits, AreRoomy}
use Rattle.sq_draft_laws.specs.Scope.{HomesAreNear}

-- a form that is a leaf, with the number of its code and at a node of its level
pub record IsCallOf (bodies : ℕ → FormBody) (homes : ℕ → Homes) (level level_of : ℕ → ℕ) (node code : ℕ) : Type 0
  where
    pub form : ℕ
    pub leaf : LeafSource
    pub is : (bodies form).body ≡ body.Leaf leaf
    pub code_is : (homes form).code ≡ code
    pub level_is : level_of node ≡ level form

-- level_of: of a node
abbrev pub IsAtLevel : (ℕ → FormBody) → (ℕ → Homes) → (level level_of : ℕ → ℕ) → Event → Type 0
IsAtLevel bodies homes level level_of (Copy from to bytes) = Unit {0}
IsAtLevel bodies homes level level_of (Fill to elem count v) = Unit {0}
IsAtLevel bodies homes level level_of (Accumulate op elem from to count) = Unit {0}
IsAtLevel bodies homes level level_of (Leaf node code views path) = IsCallOf bodies homes level level_of node code

-- Each leaf event of the entry's plan calls a form that is a leaf, at a node of the form's level.
abbrev pub LeavesAreAtLevels : Type 0
LeavesAreAtLevels = (s : Setting) (most : Bounds) → AreBounds most → (last nodes : ℕ) (level_of : ℕ → ℕ)
    → IsMachine s most last (NodeAt nodes level_of)
    → (bodies : ℕ → FormBody) (homes : ℕ → Homes) (level : ℕ → ℕ) → AreLeveled s bodies homes level
    → AreTabled s most last bodies homes level → AreRoomy s bodies homes → HomesAreNear bodies homes
    → level 0 ≡ 0 → s.level 0 ≡ 0 → NodeAt nodes level_of 0 0
    → (n : ℕ) (args : List Argument)
    → RowFits bodies homes (take (length (homes 0).params) (bodies 0).arrays) (entry_row args)
    → AllEvents (IsAtLevel bodies homes level level_of)
    (scoped 0 (map buffer_or (homes 0).params) (written s (entry_term bodies homes n args) at_root))
