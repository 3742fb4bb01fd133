-- Where the buffers of a program's draft are named.
use Rattle.std.specs.Prelude.{◌⊎◌, ℕ, ◌<◌, List, length}
use Rattle.std.specs.List.{Contains}
use Rattle.sq_machfile.specs.Machines.{WithinLimits}
use Rattle.sq_ir.specs.Scopes.{Scope}
use Rattle.sq_ir.specs.declared.plan.Draft.{Draft}
use Rattle.sq_nests.specs.Nests.{Nest, End, Both, Open, named_in}
use Rattle.sq_nests.specs.Drafts.{scopes}
use Rattle.sq_spec.specs.declared.resolved.Resolved.{Resolved}
use Rattle.sq_meant.specs.PlanGood.DraftLaws.Choosing.{MayBeChosen}
use Rattle.sq_meant.specs.PlanGood.Homes.Chosen.declared.choice.Choice.{Choice}
use Rattle.sq_meant.specs.PlanGood.Homes.Drafts.{IsDraftOf}
use Rattle.sq_meant.specs.PlanGood.Planned.{memories_of}

-- one of these scopes is so
abbrev pub Somewhere : {S : Type 0} → (S → Type 0) → Nest S → Type 0
Somewhere P End = ⊥
Somewhere P (Both a b) = Somewhere P a ⊎ Somewhere P b
Somewhere P (Open scope a) = P scope ⊎ Somewhere P a

-- Each buffer of a program's draft is one of the entry's, or a scope of the term names it.
abbrev pub BuffersAreNamed : Type 0
BuffersAreNamed = (r : Resolved) → WithinLimits r.machine.now → (choices : List Choice) → MayBeChosen r choices
    → (d : Draft) → IsDraftOf r choices d → (b : ℕ) → b < length d.buffers
    → Contains d.entry b ⊎ Somewhere (λ names. Contains names b) (named_in d.term)

-- And such a scope is opened: it is one of those of the draft written out on the memories of the program's machine.
abbrev pub BuffersAreOpened : Type 0
BuffersAreOpened = (r : Resolved) → WithinLimits r.machine.now → (choices : List Choice) → MayBeChosen r choices
    → (d : Draft) → IsDraftOf r choices d → (b : ℕ) → b < length d.buffers
    → Somewhere (λ (s : Scope). Contains s.buffers b) (scopes d (memories_of r))
