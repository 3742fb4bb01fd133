-- The notes of a draft in which loops overlap their transfers: one for each such loop, at its place, beside those of
-- the arguments that leave loops. They stand by the form in which the loop stands, then by the loop's place; at one
-- loop those of the arguments that leave it come first.
--
-- Of the loops round a call in plain loops the innermost alone may overlap, since the others' bodies are loops, and
-- nothing else stands in these. So the notes of all arguments that leave them stand together, with that loop's behind.
use Rattle.std.specs.Prelude.{ℕ, suc, ◌==◌, nat_lt, Bool, false, ◌&&◌, ◌||◌, List, [], ◌∷◌, ◌++◌, get_or, take, drop}
use Rattle.std.specs.Prelude.{if◌then◌else◌}
use Rattle.sq_text.specs.declared.place.Place.{Place}
use Rattle.sq_text.specs.Places.{is_before}
use Rattle.sq_ir.specs.declared.plan.Note.{Note}
use Rattle.sq_ir.specs.declared.plan.Note.TheVariants.{Overlap}
use Rattle.sq_spec.specs.declared.resolved.Resolved.{Resolved}
use Rattle.sq_hoist.specs.Chosen.Forms.{instance_at, name_by}
use Rattle.sq_hoist.specs.declared.sites.Site.{Site}
use Rattle.sq_hoist.specs.Choices.{sites_of}
use Rattle.sq_hoist.specs.Notes.{no_place, site_notes}
use Rattle.sq_pipe.specs.declared.candidate.Candidate.{Candidate}
use Rattle.sq_pipe.specs.Greedy.{candidates_of, taken_of}

abbrev pub overlap_notes : Resolved → (taken : List Bool) → List Candidate → List Note
overlap_notes r taken [] = []
overlap_notes r taken (c ∷ cs) =
    if get_or taken c.form false
    then Overlap c.place (name_by (instance_at r c.caller)) ∷ overlap_notes r taken cs
    else overlap_notes r taken cs

-- whether a loop stands in a form before this one, or in this form before this place
abbrev pub is_ahead_of : (caller : ℕ) → Place → Candidate → Bool
is_ahead_of k place c = nat_lt c.caller k || (c.caller == k && is_before c.place place)

-- of loops in order, how many do
abbrev pub count_ahead : (caller : ℕ) → Place → List Candidate → ℕ
count_ahead k place [] = 0
count_ahead k place (c ∷ cs) = if is_ahead_of k place c then suc (count_ahead k place cs) else 0

-- how many stand before the innermost of the loops round a call
abbrev pub before_site : Site → List Candidate → ℕ
before_site s cs = count_ahead s.caller (get_or s.loops 0 no_place) cs

-- of calls in plain loops and loops that may overlap, each in order of their forms and places
abbrev pub merged : Resolved → (taken : List Bool) → List Site → List Candidate → List Note
merged r taken [] cs = overlap_notes r taken cs
merged r taken (s ∷ ss) cs =
    overlap_notes r taken (take (before_site s cs) cs)
    ++ (site_notes r s ++ merged r taken ss (drop (before_site s cs) cs))

abbrev pub notes_of : Resolved → List Note
notes_of r = merged r (taken_of r) (sites_of r) (candidates_of r)
