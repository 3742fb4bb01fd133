-- What is placed under a draft's homes means what the program does.
use Rattle.std.specs.Prelude.{◌≡◌, ℕ, List, length}
use Rattle.sq_blocks.specs.declared.argument.Argument.{Argument}
use Rattle.sq_spec.specs.declared.body.FormBody.{FormBody}
use Rattle.sq_spec.specs.declared.resolved.Resolved.{Resolved}
use Rattle.sq_spec.specs.Bodies.{body_of}
use Rattle.sq_spec.specs.Numbered.{entry_call}
use Rattle.sq_placed.specs.declared.home.Homes.{Homes}
use Rattle.sq_placed.specs.Placed.{plain}
use Rattle.sq_placed.specs.Tables.{entry_placed}
use Rattle.sq_placed.specs.Pipes.{PipesStand}
use Rattle.sq_placed.specs.SameWorks.{IsSameWork}
use Rattle.sq_term.specs.Terms.{entry_term, body_in, homes_in}
use Rattle.sq_homes.specs.Chosen.Forms.{bodies_of}
use Rattle.sq_homes.specs.Drafts.{args_of, term_with}

-- The bodies by a draft's list are those of the program's forms.
abbrev pub BodiesAreTables : Type 0
BodiesAreTables = (r : Resolved) (k : ℕ)
    → body_in (bodies_of r) k ≡ body_of r.typed.now.tasks r.mapping.now.instances r.found.entries k

-- What is placed, its places forgotten, does what the call of the entry by the program's tables does, wherever arrays
-- stand.
abbrev pub PlacedIsProgram : Type 0
PlacedIsProgram = (r : Resolved) (homes : ℕ → Homes) → PipesStand (body_in (bodies_of r)) homes
    → IsSameWork (plain (entry_placed (body_in (bodies_of r)) homes (length (bodies_of r)) (args_of r)))
    (entry_call r.typed.now.tasks r.mapping.now r.found.entries)

-- The term of a draft is that of its entry.
abbrev pub TermIsEntrys : Type 0
TermIsEntrys = (bodies : List FormBody) (homes : List Homes) (args : List Argument)
    → term_with bodies homes args ≡ entry_term (body_in bodies) (homes_in homes) (length bodies) args
