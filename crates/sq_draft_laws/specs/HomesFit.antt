-- The homes of a draft and its entry fit what the laws of plans ask.
use Rattle.std.specs.Prelude.{◌≡◌, ℕ, List, Some, slice_get}
use Rattle.sq_spec.specs.declared.resolved.Resolved.{Resolved}
use Rattle.sq_placed.specs.declared.home.Home.{Home}
use Rattle.sq_placed.specs.declared.home.Home.TheVariants.{Own}
use Rattle.sq_term.specs.Terms.{body_in, homes_in}
use Rattle.sq_program_laws.specs.TermLaws.Held.{AreHeldInside}
use Rattle.sq_program_laws.specs.Homes.{mays_of, HomesFit}
use Rattle.sq_homes.specs.Chosen.declared.choice.Choice.{Choice}
use Rattle.sq_homes.specs.Chosen.Forms.{bodies_of}
use Rattle.sq_homes.specs.Drafts.{homes_of, args_of}
use Rattle.sq_draft_laws.specs.Choosing.{Walked, MayBeChosen}
use Rattle.sq_program_laws.specs.Entry.{EntryFacts}

-- Each form has a home for each of its parameters, in place only where it was found so, and a buffer for each local.
abbrev pub HomesFitForms : Type 0
HomesFitForms = (r : Resolved) → Walked r → (choices : List Choice) → MayBeChosen r choices
    → HomesFit r.typed.now r.mapping.now r.found.entries (homes_in (homes_of r choices))

-- What leaves loops are arguments of calls that are all that stands in these loops.
abbrev pub HomesAreHeldInside : Type 0
HomesAreHeldInside = (r : Resolved) (choices : List Choice) → MayBeChosen r choices
    → AreHeldInside (body_in (bodies_of r)) (homes_in (homes_of r choices))

-- The entry is called with its arrays, whole.
abbrev pub EntriesAreWhole : Type 0
EntriesAreWhole = (r : Resolved) → Walked r → (choices : List Choice) → MayBeChosen r choices
    → EntryFacts (body_in (bodies_of r)) (homes_in (homes_of r choices))
    (mays_of r.typed.now.tasks r.mapping.now.instances r.found.entries 0) (args_of r)

-- None of the entry's parameters is in place or leaves a loop: each has a buffer of its own.
pub record HasOwn (h : Home) : Type 0 where
  pub buffer : ℕ
  pub is : h ≡ Own buffer

abbrev pub EntriesHaveBuffers : Type 0
EntriesHaveBuffers = (r : Resolved) → Walked r → (choices : List Choice) → MayBeChosen r choices → (i : ℕ) (h : Home)
    → slice_get (homes_in (homes_of r choices) 0).params i ≡ Some h → HasOwn h
