-- Which loops overlap their transfers: in order, each for which all nodes still have room when its buffers that leave
-- no loop, and those of the loops taken before, stand there twice.
--
-- Form 0 needs 80 bytes of a root of 128. It has two loops of calls, each of two arguments of 16 bytes at a child of
-- 64: doubled they take 64, so both overlap. With a child of 63 bytes neither does. Had the first call's form a call of
-- its own at the same level that needs 8 bytes more, the first loop would need 72 and the second alone would be taken.
use Rattle.std.specs.Prelude.{ℕ, ◌+◌, nat_le, Bool, true, false, ◌&&◌, List, [], ◌∷◌, ◌++◌, map, get_or, slice_set}
use Rattle.std.specs.Prelude.{if◌then◌else◌}
use Rattle.sq_forms.specs.declared.form.Form.{Form}
use Rattle.sq_spec.specs.declared.body.Body.{Body}
use Rattle.sq_spec.specs.declared.body.Body.TheVariants as body
use Rattle.sq_spec.specs.declared.body.FormBody.{FormBody}
use Rattle.sq_spec.specs.declared.resolved.Resolved.{Resolved}
use Rattle.sq_hoist.specs.SpecLaws.Needs.{Ended, callers_end}
use Rattle.sq_hoist.specs.Chosen.declared.choice.Choice.{Choice}
use Rattle.sq_hoist.specs.Chosen.Arrays.{standing, others, array_size}
use Rattle.sq_hoist.specs.Chosen.Forms.{bodies_of, choice_in}
use Rattle.sq_hoist.specs.Choices.{hoisted}
use Rattle.sq_pipe.specs.declared.candidate.Candidate.{Candidate}
use Rattle.sq_pipe.specs.declared.room.Room.{Room}
use Rattle.sq_pipe.specs.Runs.{Marks, marks_of, least_room, most_children, no_bound}
use Rattle.sq_pipe.specs.Candidates.{candidates}

-- ---- what is known of forms

abbrev pub sizes_of : FormBody → List ℕ → ℕ
sizes_of b [] = 0
sizes_of b (i ∷ is) = array_size b i + sizes_of b is

-- the bytes of its buffers, those of them that a loop that overlaps has twice, and the room at its nodes
abbrev pub room_of : Resolved → FormBody → Choice → Marks → Room
room_of r b c marks = record {
  own = sizes_of b (standing b c);
  more = sizes_of b (others c);
  room = least_room marks 0 r.machine.now.nodes no_bound;
}

-- of the forms from the k-th on, where these are the choices of all
abbrev pub rooms_by : Resolved → List Choice → (k : ℕ) → List FormBody → List Marks → List Room
rooms_by r choices k [] marks = []
rooms_by r choices k (b ∷ bs) marks =
    room_of r b (choice_in choices k) (get_or marks k []) ∷ rooms_by r choices (k + 1) bs marks

abbrev pub rooms_of : Resolved → List Room
rooms_of r = rooms_by r (hoisted r) 0 (bodies_of r) (marks_of r)

-- ---- whether all nodes have room

-- taken: of each form whether the loop that calls it overlaps
abbrev pub bytes_of : Room → Bool → ℕ
bytes_of x taken = x.own + (if taken then x.more else 0)

-- the forms from the k-th on, behind those whose ends are known
abbrev pub have_room : (taken : List Bool) → (k : ℕ) → List Form → List Room → List Ended → Bool
have_room taken k [] rooms ended = true
have_room taken k (f ∷ fs) [] ended = true
have_room taken k (f ∷ fs) (x ∷ rooms) ended =
    let end = callers_end ended f.level f.caller + bytes_of x (get_or taken k false) in
    nat_le end x.room && have_room taken (k + 1) fs rooms (ended ++ (f, end) ∷ [])

-- ---- in order

abbrev pub with_form : List Bool → ℕ → List Bool
with_form taken k = slice_set taken k true

module _ (fits : List Bool → Bool) where
  abbrev pub taken_from : List Bool → List Candidate → List Bool
  taken_from taken [] = taken
  taken_from taken (c ∷ cs) =
      taken_from (if fits (with_form taken c.form) then with_form taken c.form else taken) cs

-- ---- what is chosen

-- leaves: of each form how many loops the arguments of its call leave
abbrev pub candidates_in : (leaves : ℕ → List ℕ) → (children caller : ℕ) → Body → List Candidate
candidates_in leaves children k (body.Leaf code) = []
candidates_in leaves children k (body.Inner list) = candidates leaves children k list

-- of the forms from the k-th on, where these are the choices of all
abbrev pub candidates_by : Resolved → List Choice → (k : ℕ) → List FormBody → List Marks → List Candidate
candidates_by r choices k [] marks = []
candidates_by r choices k (b ∷ bs) marks =
    candidates_in (λ f. (choice_in choices f).leaves) (most_children (get_or marks k []) 0 r.machine.now.nodes 0) k
    b.body
    ++ candidates_by r choices (k + 1) bs marks

-- after hoisting
abbrev pub body_candidates : Resolved → (children caller : ℕ) → Body → List Candidate
body_candidates r = candidates_in (λ f. (choice_in (hoisted r) f).leaves)

abbrev pub candidates_from : Resolved → (k : ℕ) → List FormBody → List Marks → List Candidate
candidates_from r = candidates_by r (hoisted r)

-- by the number of the form in which they stand, and in it in text order
abbrev pub candidates_of : Resolved → List Candidate
candidates_of r = candidates_from r 0 (bodies_of r) (marks_of r)

abbrev pub none_taken : List Form → List Bool
none_taken forms = map (λ f. false) forms

-- of each form whether the loop that calls it overlaps its transfers
abbrev pub taken_of : Resolved → List Bool
taken_of r =
    taken_from (λ taken. have_room taken 0 r.forms (rooms_of r) []) (none_taken r.forms) (candidates_of r)

abbrev pub with_overlap : Choice → Bool → Choice
with_overlap c taken = record { in_place = c.in_place; leaves = c.leaves; overlaps = taken }

-- the choices from the k-th on
abbrev pub overlaps_from : List Bool → (k : ℕ) → List Choice → List Choice
overlaps_from taken k [] = []
overlaps_from taken k (c ∷ cs) = with_overlap c (get_or taken k false) ∷ overlaps_from taken (k + 1) cs

-- what hoisting chooses, and which loops overlap their transfers beside
abbrev pub overlapped : Resolved → List Choice
overlapped r = overlaps_from (taken_of r) 0 (hoisted r)
