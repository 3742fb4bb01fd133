-- What is chosen by hoisting may be chosen: what leaves loops may leave these.
use Rattle.sq_spec.specs.declared.resolved.Resolved.{Resolved}
use Rattle.sq_spec.specs.Bodies.{body_of}
use Rattle.sq_draft_laws.specs.Term.Terms.{homes_in}
use Rattle.sq_draft_laws.specs.ProgramLaws.Held.{HoldsFit}
use Rattle.sq_draft_laws.specs.Homes.Drafts.{homes_of}
use Rattle.sq_draft_laws.specs.Choosing.{Walked, MayBeChosen, NoneOverlaps}
use Rattle.sq_pipe.specs.Hoist.Choices.{hoisted}
use Rattle.sq_pass_laws.specs.Times.{BodyIsBegun}
use Rattle.std.specs.Prelude.{ℕ}

-- The tables of a program's forms have a row for each time that a statement is begun.
abbrev pub TablesHaveTimes : Type 0
TablesHaveTimes = (r : Resolved) → Walked r → (k : ℕ)
    → BodyIsBegun (body_of r.typed.now.tasks r.mapping.now.instances r.found.entries k).body

-- What leaves loops isn't in place, and leaves plain loops that stand round its call, which has one form.
abbrev pub ChoicesAreHoisted : Type 0
ChoicesAreHoisted = (r : Resolved) → Walked r → MayBeChosen r (hoisted r)

-- No loop overlaps its transfers.
abbrev pub HoistedOverlapNothing : Type 0
HoistedOverlapNothing = (r : Resolved) → NoneOverlaps (hoisted r)

-- It has the same block in all calls that the outermost loop begins which it leaves, apart from other arguments.
abbrev pub ChoicesHold : Type 0
ChoicesHold = (r : Resolved) → Walked r
    → HoldsFit (body_of r.typed.now.tasks r.mapping.now.instances r.found.entries) (homes_in (homes_of r (hoisted r)))
