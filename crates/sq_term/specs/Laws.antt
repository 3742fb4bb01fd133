-- What the term of a form means: written out, it is the tree of what was placed.
use Rattle.std.specs.Prelude.{◌≡◌, ℕ, true, false, List, [], ◌∷◌}
use Rattle.sq_ir.specs.Leaf.declared.shape.Shape.{Shape}
use Rattle.sq_ir.specs.Written.{Setting, Env, at_root, written}
use Rattle.sq_ir.specs.Blocks.declared.argument.Argument.{Argument}
use Rattle.sq_placed.specs.Spec.declared.body.FormBody.{FormBody}
use Rattle.sq_placed.specs.declared.home.Home.{Home}
use Rattle.sq_placed.specs.declared.home.Homes.{Homes}
use Rattle.sq_term.specs.declared.context.Context.{Context}
use Rattle.sq_placed.specs.Seats.{Seat, buffer_seat}
use Rattle.sq_placed.specs.Trees.{tree}
use Rattle.sq_placed.specs.Tables.{placed_of, entry_placed}
use Rattle.sq_placed.specs.Pipes.{PipesStand}
use Rattle.sq_term.specs.Terms.{term_of, entry_term, buffer_or}
use Rattle.sq_term.specs.Stands.{Stands, AreLeveled}

-- of a form, wherever it stands
abbrev pub TermIsTree : Type 0
TermIsTree =
    (s : Setting) (bodies : ℕ → FormBody) (homes : ℕ → Homes) (level : ℕ → ℕ) → AreLeveled s bodies homes level
    → PipesStand bodies homes → (n k : ℕ) (c : Context) (env : Env) (node : ℕ) (seats : List Seat) (path : List ℕ)
    → Stands s env (level k) c false true 0 node 0 seats path
    → written s (term_of bodies homes n k c) env ≡ tree s (placed_of bodies homes n k) node 0 seats path

-- ---- the entry, at the root

abbrev pub entry_seats : Setting → List Shape → List Home → List Seat
entry_seats s shapes [] = []
entry_seats s [] (h ∷ hs) = []
entry_seats s (x ∷ shapes) (h ∷ hs) = buffer_seat s 0 (buffer_or h) x ∷ entry_seats s shapes hs

-- the entry's buffers are at the root
abbrev pub EntryIsTree : Type 0
EntryIsTree =
    (s : Setting) (bodies : ℕ → FormBody) (homes : ℕ → Homes) (level : ℕ → ℕ) → AreLeveled s bodies homes level
    → PipesStand bodies homes → level 0 ≡ 0 → s.level 0 ≡ 0
    → (n : ℕ) (args : List Argument)
    → written s (entry_term bodies homes n args) at_root
    ≡ tree s (entry_placed bodies homes n args) 0 0 (entry_seats s (bodies 0).arrays (homes 0).params) []
