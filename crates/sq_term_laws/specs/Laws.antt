-- The term of forms is well formed.
use Rattle.std.specs.Prelude.{◌≡◌, ℕ, true, false, List, length, take}
use Rattle.sq_blocks.specs.declared.argument.Argument.{Argument}
use Rattle.sq_spec.specs.declared.body.FormBody.{FormBody}
use Rattle.sq_ir.specs.Written.{Setting, Env, at_root}
use Rattle.sq_ir.specs.Plans.{Meets}
use Rattle.sq_placed.specs.declared.home.Homes.{Homes}
use Rattle.sq_placed.specs.Pipes.{PipesStand}
use Rattle.sq_term.specs.declared.context.Context.{Context}
use Rattle.sq_term.specs.Terms.{term_of, entry_term, entry_row}
use Rattle.sq_term.specs.Stands.{AreLeveled}
use Rattle.sq_term_laws.specs.Fits.{Bounds, AreBounds, IsMachine, AreTabled, Fits, NodeAt}
use Rattle.sq_term_laws.specs.Roomy.{RowsInside, RowFits, AreRoomy, EntryFits, Sees}

-- ---- the term is well formed: numbers have their values where they are met, scopes and children are there

abbrev pub TermIsFine : Type 0
TermIsFine = (s : Setting) (most : Bounds) → AreBounds most → (last nodes : ℕ) (level_of : ℕ → ℕ)
    → IsMachine s most last (NodeAt nodes level_of)
    → (bodies : ℕ → FormBody) (homes : ℕ → Homes) (level : ℕ → ℕ) → AreLeveled s bodies homes level
    → AreTabled s most last bodies homes level → PipesStand bodies homes
    → (n k : ℕ) (c : Context) (env : Env) (buffers : List ℕ)
    → Fits s last (NodeAt nodes level_of) env (level k) c false true 0
    → Meets s (λ at bs a. Unit {0}) (term_of bodies homes n k c) env buffers

abbrev pub EntryIsFine : Type 0
EntryIsFine = (s : Setting) (most : Bounds) → AreBounds most → (last nodes : ℕ) (level_of : ℕ → ℕ)
    → IsMachine s most last (NodeAt nodes level_of)
    → (bodies : ℕ → FormBody) (homes : ℕ → Homes) (level : ℕ → ℕ) → AreLeveled s bodies homes level
    → AreTabled s most last bodies homes level → PipesStand bodies homes → level 0 ≡ 0 → NodeAt nodes level_of 0 0
    → (n : ℕ) (args : List Argument) (buffers : List ℕ)
    → Meets s (λ at bs a. Unit {0}) (entry_term bodies homes n args) at_root buffers

-- ---- and its rows lie inside their buffers

abbrev pub TermIsRoomy : Type 0
TermIsRoomy = (s : Setting) (most : Bounds) → AreBounds most → (last nodes : ℕ) (level_of : ℕ → ℕ)
    → IsMachine s most last (NodeAt nodes level_of)
    → (bodies : ℕ → FormBody) (homes : ℕ → Homes) (level : ℕ → ℕ) → AreLeveled s bodies homes level
    → AreTabled s most last bodies homes level → PipesStand bodies homes → AreRoomy s bodies homes
    → (n k : ℕ) (c : Context) (env : Env) (buffers : List ℕ)
    → Fits s last (NodeAt nodes level_of) env (level k) c false true 0 → Sees s env.turns (bodies k).arrays c
    → Meets s (RowsInside s) (term_of bodies homes n k c) env buffers

-- the entry's arguments are those of its parameters
abbrev pub EntryIsRoomy : Type 0
EntryIsRoomy = (s : Setting) (most : Bounds) → AreBounds most → (last nodes : ℕ) (level_of : ℕ → ℕ)
    → IsMachine s most last (NodeAt nodes level_of)
    → (bodies : ℕ → FormBody) (homes : ℕ → Homes) (level : ℕ → ℕ) → AreLeveled s bodies homes level
    → AreTabled s most last bodies homes level → PipesStand bodies homes → AreRoomy s bodies homes
    → level 0 ≡ 0 → NodeAt nodes level_of 0 0
    → EntryFits s (homes 0).params (take (length (homes 0).params) (bodies 0).arrays)
    → (n : ℕ) (args : List Argument)
    → RowFits bodies homes (take (length (homes 0).params) (bodies 0).arrays) (entry_row args)
    → (buffers : List ℕ) → Meets s (RowsInside s) (entry_term bodies homes n args) at_root buffers
