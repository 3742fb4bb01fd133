-- The loops that were taken may overlap their transfers, room left aside.
use Rattle.sq_spec.specs.declared.resolved.Resolved.{Resolved}
use Rattle.sq_spec.specs.Bodies.{body_of}
use Rattle.sq_draft_laws.specs.Term.Terms.{homes_in}
use Rattle.sq_draft_laws.specs.ProgramLaws.Held.{HoldsFit}
use Rattle.sq_draft_laws.specs.ProgramLaws.Piped.{PipesFit}
use Rattle.sq_draft_laws.specs.Homes.Drafts.{homes_of}
use Rattle.sq_draft_laws.specs.Choosing.{Walked, MayBeChosen}
use Rattle.sq_pipe.specs.Greedy.{overlapped}

-- A loop that overlaps its transfers is a `mapseq` or a spread `mappar` of one lower call that has one form, none of
-- whose parameters is in place.
abbrev pub OverlapsMayBeChosen : Type 0
OverlapsMayBeChosen = (r : Resolved) → Walked r → MayBeChosen r (overlapped r)

-- What leaves loops has the same block in all calls of each, beside those that overlap their transfers too.
abbrev pub OverlapsHold : Type 0
OverlapsHold = (r : Resolved) → Walked r
    → HoldsFit (body_of r.typed.now.tasks r.mapping.now.instances r.found.entries)
    (homes_in (homes_of r (overlapped r)))

-- Each of its arguments has two buffers or leaves loops, and what an iteration of a `mapseq` writes is clear of the
-- next two.
abbrev pub OverlapsFit : Type 0
OverlapsFit = (r : Resolved) → Walked r
    → PipesFit (body_of r.typed.now.tasks r.mapping.now.instances r.found.entries)
    (homes_in (homes_of r (overlapped r)))
