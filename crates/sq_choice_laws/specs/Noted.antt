-- The notes of what is chosen, in the order of the text.
--
-- They stand by the number of the form, and in it by the map, in text order. At a map there is first a note for each
-- parameter of the one lower call in it that leaves this loop as its outermost, by parameter; then one for the map
-- itself, where it overlaps its transfers.
--
-- Of `mapseq (int i = 0 to 2) { mapseq (int j = 0 to 3) { low(A[i], B[j], C); } }` let C leave both loops and A the
-- inner one, and let the inner one overlap. The notes are C's at the outer loop, A's at the inner one, and the overlap
-- there.
use Rattle.std.specs.Prelude.{◌≡◌, ℕ, ◌+◌, true, List, [], ◌∷◌, ◌++◌, map, slice_get, Option, Some, None}
use Rattle.std.specs.Prelude.{if◌then◌else◌}
use Rattle.sq_text.specs.declared.place.Place.{Place}
use Rattle.sq_text.specs.Places.{is_before}
use Rattle.sq_ir.specs.declared.plan.Note.{Note}
use Rattle.sq_ir.specs.declared.plan.Note.TheVariants.{Overlap}
use Rattle.sq_placed.specs.Tables.{Chain, call_chain, chain_of, first_of, row_form}
use Rattle.sq_spec.specs.declared.statement.CallInstance.{CallInstance}
use Rattle.sq_spec.specs.declared.statement.Statement.{Statement}
use Rattle.sq_spec.specs.declared.statement.Statement.TheOpen.{Statement-F}
use Rattle.sq_spec.specs.declared.statement.Statement.TheFolds.{fold-Statement}
use Rattle.sq_spec.specs.declared.body.Body.{Body}
use Rattle.sq_spec.specs.declared.body.Body.TheVariants as body
use Rattle.sq_spec.specs.declared.body.FormBody.{FormBody}
use Rattle.sq_spec.specs.declared.resolved.Resolved.{Resolved}
use Rattle.sq_draft_laws.specs.TermLaws.Orders.{EachOf}
use Rattle.sq_draft_laws.specs.Choosing.{Walked}
use Rattle.sq_draft_laws.specs.Homes.Chosen.declared.choice.Choice.{Choice}
use Rattle.sq_draft_laws.specs.Homes.Chosen.Forms.{bodies_of, choice_in, instance_at, name_by}
use Rattle.sq_pipe.specs.Hoist.Choices.{hoisted}
use Rattle.sq_pipe.specs.Hoist.Notes as hoist
use Rattle.sq_pipe.specs.Greedy.{overlapped}
use Rattle.sq_pipe.specs.Notes as pipe

-- ---- the notes of choices

-- A statement: its rows, if it is a lower call; the loops that it is round one lower call, if it is; and its notes.
pub record Noted : Type 0 where
  pub call : Option (List CallInstance)
  pub chain : Option (Chain ℕ)
  pub notes : List Note

module _ (r : Resolved) (choices : List Choice) (caller : ℕ) where
  -- the parameters that leave the map as their outermost loop, where it is loops round one lower call
  abbrev pub hoists_at : Place → Option (Chain ℕ) → List Note
  hoists_at place None = []
  hoists_at place (Some h) =
      let f = row_form (slice_get h.instances 0) in
      hoist.notes_at (name_by (instance_at r caller)) (hoist.param_at r f) place h.loops 0 (choice_in choices f).leaves

  -- the map, where one lower call is its whole body
  abbrev pub overlaps_at : Place → Option (List CallInstance) → List Note
  overlaps_at place None = []
  overlaps_at place (Some rows) =
      if (choice_in choices (row_form (slice_get rows 0))).overlaps
      then Overlap place (name_by (instance_at r caller)) ∷ [] else []

  abbrev pub call_alone : List (Option (List CallInstance)) → Option (List CallInstance)
  call_alone (o ∷ []) = o
  call_alone os = None

  abbrev pub all_notes : List (List Note) → List Note
  all_notes [] = []
  all_notes (ns ∷ rest) = ns ++ all_notes rest

  abbrev pub noted_step : Statement-F Noted → Noted
  noted_step (Statement-F.Call lower rows) = record {
    call = if lower then Some rows else None;
    chain = call_chain lower rows;
    notes = [];
  }
  noted_step (Statement-F.Map place m counts starts parts) = record {
    call = None;
    chain = chain_of first_of m starts (map (λ p. p.chain) parts);
    notes = hoists_at place (chain_of first_of m starts (map (λ p. p.chain) parts))
        ++ (overlaps_at place (call_alone (map (λ p. p.call) parts)) ++ all_notes (map (λ p. p.notes) parts));
  }

  abbrev pub noted : Statement → Noted
  noted = fold-Statement Noted noted_step

  abbrev pub notes_in : Statement → List Note
  notes_in x = (noted x).notes

  abbrev pub body_notes : Body → List Note
  body_notes (body.Leaf code) = []
  body_notes (body.Inner list) = all_notes (map notes_in list)

-- of the forms from the k-th on
abbrev pub notes_from : Resolved → List Choice → (k : ℕ) → List FormBody → List Note
notes_from r choices k [] = []
notes_from r choices k (b ∷ bs) = body_notes r choices k b.body ++ notes_from r choices (k + 1) bs

abbrev pub notes_of : Resolved → List Choice → List Note
notes_of r choices = notes_from r choices 0 (bodies_of r)

-- ---- places

-- of the maps of statements, in text order
abbrev pub all_places : List (List Place) → List Place
all_places [] = []
all_places (ps ∷ rest) = ps ++ all_places rest

abbrev pub places_step : Statement-F (List Place) → List Place
places_step (Statement-F.Call lower rows) = []
places_step (Statement-F.Map place m counts starts parts) = place ∷ all_places parts

abbrev pub places_in : Statement → List Place
places_in = fold-Statement (List Place) places_step

abbrev pub body_places : Body → List Place
body_places (body.Leaf code) = []
body_places (body.Inner list) = all_places (map places_in list)

-- each stands before all that follow
abbrev pub AreRising : List Place → Type 0
AreRising [] = Unit {0}
AreRising (p ∷ ps) = EachOf (λ q. is_before p q ≡ true) ps × AreRising ps

-- maps stand at their places in the order of the text, as in a program that was read
abbrev pub MapsRise : Resolved → Type 0
MapsRise r = EachOf (λ (b : FormBody). AreRising (body_places b.body)) (bodies_of r)

-- ---- the laws

-- The notes of hoisting are those of what leaves loops, in the order of the text.
abbrev pub HoistNotesAreChoices : Type 0
HoistNotesAreChoices = (r : Resolved) → Walked r → hoist.notes_of r ≡ notes_of r (hoisted r)

-- With the loops that overlap they are those of both, where the maps of each form stand in order.
abbrev pub NotesAreChoices : Type 0
NotesAreChoices = (r : Resolved) → Walked r → MapsRise r → pipe.notes_of r ≡ notes_of r (overlapped r)
