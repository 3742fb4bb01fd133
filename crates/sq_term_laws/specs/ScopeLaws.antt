-- What holds of the scopes of drafts.
use Rattle.std.specs.Prelude.{◌≡◌, ℕ, suc, ◌<◌, ◌++◌, Bool, false, List, []}
use Rattle.sq_ir.specs.Written.{Setting, scoped}
use Rattle.sq_spec.specs.declared.body.FormBody.{FormBody}
use Rattle.sq_placed.specs.declared.home.Homes.{Homes}
use Rattle.sq_term.specs.declared.context.Context.{Context}
use Rattle.sq_placed.specs.Placed.{Placed}
use Rattle.sq_placed.specs.Seats.{Seat}
use Rattle.sq_placed.specs.Trees.{tree}
use Rattle.sq_term.specs.Terms.{term_of, entry_row, entry_term}
use Rattle.sq_placed.specs.Tables.{placed_of, entry_placed}
use Rattle.sq_term.specs.Stands.{calls_of, AreLevel}
use Rattle.sq_blocks.specs.declared.argument.Argument.{Argument}
use Rattle.sq_nests.specs.Nests.{Open, named_in}
use Rattle.sq_nests.specs.Stacks.{those, OnStack, HaveBefore, AreAside}
use Rattle.sq_nests.specs.Under.{IsForest}
use Rattle.sq_term_laws.specs.Rooms.{IsSpreadWell}
use Rattle.sq_term_laws.specs.Orders.{own_locals, AreInOrder}
use Rattle.sq_term_laws.specs.Overlapping.{OverlapsStand}

-- scopes beside one another never have one node
abbrev pub TreesAreAside : Type 0
TreesAreAside = (s : Setting) (depth : ℕ → ℕ) → IsForest s depth → (levels : ℕ)
    → ((node : ℕ) → suc (depth node) < levels → 0 < s.children node)
    → (x : Placed) (level node child : ℕ) (seats : List Seat) (path : List ℕ) → depth node ≡ level
    → (suc level < levels → child < s.children node) → IsSpreadWell levels level x
    → AreAside (tree s x node child seats path)

-- each buffer stands behind the same others wherever a scope names it
abbrev pub TermsStack : Type 0
TermsStack = (here : ℕ → Bool) (before outer : ℕ → List ℕ) (bodies : ℕ → FormBody) (homes : ℕ → Homes)
    → OverlapsStand bodies homes → AreInOrder here before outer bodies homes
    → (d form : ℕ) (c : Context) → HaveBefore here before (outer form) (named_in (term_of bodies homes d form c))

-- the same of a whole draft, whose entry's buffers are in scope round its term
abbrev pub EntryStacks : Type 0
EntryStacks = (here : ℕ → Bool) (before outer : ℕ → List ℕ) (bodies : ℕ → FormBody) (homes : ℕ → Homes)
    → OverlapsStand bodies homes → AreInOrder here before outer bodies homes
    → (d : ℕ) (args : List Argument) (entry : List ℕ) → OnStack before [] (those here entry)
    → OnStack before (those here entry) (own_locals here before outer bodies homes (entry_row args))
    → outer 0 ≡ those here entry ++ own_locals here before outer bodies homes (entry_row args)
    → HaveBefore here before [] (Open entry (named_in (entry_term bodies homes d args)))

abbrev pub EntryIsAside : Type 0
EntryIsAside = (s : Setting) (depth : ℕ → ℕ) → IsForest s depth → (levels : ℕ)
    → ((node : ℕ) → suc (depth node) < levels → 0 < s.children node) → depth 0 ≡ 0
    → (bodies : ℕ → FormBody) (homes : ℕ → Homes) (n : ℕ) (args : List Argument) (seats : List Seat) (entry : List ℕ)
    → IsSpreadWell levels 0 (entry_placed bodies homes n args)
    → AreAside (scoped 0 entry (tree s (entry_placed bodies homes n args) 0 0 seats []))

-- What is placed by the tables is spread well, where each form has its level, a callee's is its caller's or the next,
-- and the entry, round which there is no loop, overlaps no transfers.
abbrev pub PlacedIsSpreadWell : Type 0
PlacedIsSpreadWell = (bodies : ℕ → FormBody) (homes : ℕ → Homes) (level : ℕ → ℕ) (levels : ℕ)
    → (homes 0).overlaps ≡ false → ((f : ℕ) → level f < levels) → ((f : ℕ) → AreLevel level (level f) (calls_of (bodies f).body))
    → (n k : ℕ) → IsSpreadWell levels (level k) (placed_of bodies homes n k)
