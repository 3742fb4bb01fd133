-- Where forms end: what stands up to there has room, whichever loops were taken.
use Rattle.std.proofs.Common.{◌≡◌, ℕ, zero, suc, ◌+◌, ◌<◌, ◌≤◌, ◌==◌, ◌&&◌, nat_le, Bool, true, false, List, [], ◌∷◌}
use Rattle.std.proofs.Common.{◌++◌, length, get_or, slice_get, Option, Some, None, refl, sym, ap, subst, ◌∙◌, arith}
use Rattle.std.proofs.Common.{length-append, if◌then◌else◌}
use Rattle.std.proofs.lemmas.Bool.Decides.{nat_tests}
use Rattle.std.proofs.lemmas.Option.{slice_get_within}
use Rattle.sq_forms.specs.declared.form.Caller.{Caller}
use Rattle.sq_forms.specs.declared.form.Form.{Form}
use Rattle.sq_spec.specs.FormLaws.Reached.{FormsCallersFirst}
use Rattle.sq_spec.specs.declared.body.FormBody.{FormBody}
use Rattle.sq_spec.specs.declared.resolved.Resolved.{Resolved}
use Rattle.sq_spec_laws.specs.Needs.{Ended, end_at, callers_end}
use Rattle.sq_plan_good.specs.Homes.Chosen.declared.choice.Choice.{Choice}
use Rattle.sq_plan_good.specs.Homes.Chosen.Arrays.{standing}
use Rattle.sq_plan_good.specs.Homes.Chosen.Forms.{bodies_of, choice_in}
use Rattle.sq_plan_good.specs.DraftLaws.Choosing.{Walked}
use Rattle.sq_plan_good.proofs.DraftLaws.Hoisting.{at_index, bodies_many}
use Rattle.sq_pass_laws.specs.Hoist.Choices.{hoisted}
use Rattle.sq_plan_good.specs.Room.{level_top, callers_top, sizes_of, FormsEnd}
use Rattle.sq_pass_laws.specs.Pipe.declared.room.Room.{Room}
use Rattle.sq_pass_laws.specs.Pipe.Runs.{Marks, marks_of, least_room, no_bound}
use Rattle.sq_pass_laws.specs.Pipe.Greedy.{room_of, rooms_by, rooms_of, bytes_of, have_room}

-- ---- tests and lists

both_hold : (p q : Bool) → (p && q) ≡ true → (p ≡ true) × (q ≡ true)
both_hold true q e = (refl, e)
both_hold false q e = absurd (let z : ◌≡◌ {A = Bool} false true = e in cc z)

no_more : (m n : ℕ) → nat_le m n ≡ true → m ≤ n
no_more m n e = grind (arith, nat_tests, e)

front : {A : Type 0} (xs ys : List A) (i : ℕ) → i < length xs → slice_get (xs ++ ys) i ≡ slice_get xs i
front [] ys i h = absurd (omega (arith, h))
front (x ∷ xs) ys zero h = refl
front (x ∷ xs) ys (suc i) h = front xs ys i (omega (arith, h))

behind : {A : Type 0} (xs : List A) (x : A) → slice_get (xs ++ x ∷ []) (length xs) ≡ Some x
behind [] x = refl
behind (y ∷ xs) x = behind xs x

-- ---- the ends of forms, in turn

abbrev end_number : Option Ended → ℕ
end_number None = 0
end_number (Some e) = e.1

module _ (taken : List Bool) where
  -- the end of the k-th form, behind those whose ends are known
  abbrev end_of : (k : ℕ) → Form → Room → List Ended → ℕ
  end_of k f x done = callers_end done f.level f.caller + bytes_of x (get_or taken k false)

  -- the forms from the k-th on with their ends, behind those
  abbrev ends_from : (k : ℕ) → List Form → List Room → List Ended → List Ended
  ends_from k [] rooms done = done
  ends_from k (f ∷ fs) [] done = done
  ends_from k (f ∷ fs) (x ∷ rooms) done = ends_from (k + 1) fs rooms (done ++ (f, end_of k f x done) ∷ [])

  -- what is done stays
  kept : (k : ℕ) (fs : List Form) (rooms : List Room) (done : List Ended) (i : ℕ) → i < length done
      → slice_get (ends_from k fs rooms done) i ≡ slice_get done i
  kept k [] rooms done i h = refl
  kept k (f ∷ fs) [] done i h = refl
  kept k (f ∷ fs) (x ∷ rooms) done i h =
      let more : Ended = (f, end_of k f x done) in
      let long = length-append done (more ∷ []) in
      kept (k + 1) fs rooms (done ++ more ∷ []) i (omega (arith, h, long)) ∙ front done (more ∷ []) i h

  -- the k-th form has room for its end
  record EndsThere (all : List Ended) (f : Form) (x : Room) (k : ℕ) : Type 0 where
    before : List Ended
    there : slice_get all k ≡ Some (f, end_of k f x before)
    same : (i : ℕ) → i < k → slice_get all i ≡ slice_get before i
    fits : end_of k f x before ≤ x.room

  ends_there : (fs : List Form) (rooms : List Room) (done : List Ended) (k j m : ℕ) (f : Form) (x : Room)
      → length done ≡ k → have_room taken k fs rooms done ≡ true → slice_get fs j ≡ Some f
      → slice_get rooms j ≡ Some x → m ≡ k + j → EndsThere (ends_from k fs rooms done) f x m
  ends_there [] rooms done k j m f x long room h g e = absurd (cc h)
  ends_there (f2 ∷ fs) [] done k j m f x long room h g e = absurd (cc g)
  ends_there (f2 ∷ fs) (x2 ∷ rooms) done k zero m f x long room h g e =
      let all : List Ended = ends_from k (f2 ∷ fs) (x2 ∷ rooms) done in
      let f_is : f2 ≡ f = cc h in
      let x_is : x2 ≡ x = cc g in
      let at : k ≡ m = omega (arith, e) in
      let more : Ended = (f2, end_of k f2 x2 done) in
      let longer = length-append done (more ∷ []) in
      let holds = both_hold (nat_le (end_of k f2 x2 done) x2.room)
      (have_room taken (k + 1) fs rooms (done ++ more ∷ [])) room in
      let first : EndsThere all f2 x2 k = record {
        before = done;
        there = ap (slice_get all) (sym long)
            ∙ kept (k + 1) fs rooms (done ++ more ∷ []) (length done) (omega (arith, longer)) ∙ behind done more;
        same = λ i l. kept (k + 1) fs rooms (done ++ more ∷ []) i (omega (arith, l, long, longer))
            ∙ front done (more ∷ []) i (omega (arith, l, long));
        fits = no_more (end_of k f2 x2 done) x2.room holds.0;
      } in
      subst (λ n. EndsThere all f x n) at
      (subst (λ (y : Room). EndsThere all f y k) x_is (subst (λ (q : Form). EndsThere all q x2 k) f_is first))
  ends_there (f2 ∷ fs) (x2 ∷ rooms) done k (suc j) m f x long room h g e =
      let more : Ended = (f2, end_of k f2 x2 done) in
      let longer = length-append done (more ∷ []) in
      let holds = both_hold (nat_le (end_of k f2 x2 done) x2.room)
      (have_room taken (k + 1) fs rooms (done ++ more ∷ [])) room in
      ends_there fs rooms (done ++ more ∷ []) (k + 1) j m f x (omega (arith, long, longer)) holds.1 h g
      (omega (arith, e))

-- ---- what is known of forms

room_there : (r : Resolved) (choices : List Choice) (k : ℕ) (bs : List FormBody) (marks : List Marks) (i m : ℕ)
    (b : FormBody) → slice_get bs i ≡ Some b → m ≡ k + i
    → slice_get (rooms_by r choices k bs marks) i ≡ Some (room_of r b (choice_in choices m) (get_or marks m []))
room_there r choices k [] marks i m b h e = absurd (cc h)
room_there r choices k (c ∷ bs) marks zero m b h e =
    let b_is : c ≡ b = cc h in
    let at : k ≡ m = omega (arith, e) in
    ap (λ n. Some (room_of r c (choice_in choices n) (get_or marks n []))) at
    ∙ ap (λ (d : FormBody). Some (room_of r d (choice_in choices m) (get_or marks m []))) b_is
room_there r choices k (c ∷ bs) marks (suc i) m b h e =
    room_there r choices (k + 1) bs marks i m b h (omega (arith, e))

-- ---- all forms of a program

module _ (callers : FormsCallersFirst) (r : Resolved) (w : Walked r) (taken : List Bool)
    (room : have_room taken 0 r.forms (rooms_of r) [] ≡ true) where
  abbrev all : List Ended
  all = ends_from taken 0 r.forms (rooms_of r) []

  -- where the k-th form ends
  abbrev pub top : ℕ → ℕ
  top k = end_number (slice_get all k)

  abbrev pub room_at : ℕ → FormBody → Room
  room_at k b = room_of r b (choice_in (hoisted r) k) (get_or (marks_of r) k [])

  body_there : (k : ℕ) (f : Form) → slice_get r.forms k ≡ Some f
      → (b : FormBody) × (slice_get (bodies_of r) k ≡ Some b)
  body_there k f there =
      let l = slice_get_within r.forms k f there in
      let m = bodies_many r (hoisted r) in
      at_index (bodies_of r) k (omega (arith, l, m))

  module _ (k : ℕ) (f : Form) (b : FormBody) (there : slice_get r.forms k ≡ Some f)
      (own : slice_get (bodies_of r) k ≡ Some b) where
    ended : EndsThere taken all f (room_at k b) k
    ended =
        let z : k ≡ 0 + k = omega arith in
        ends_there taken r.forms (rooms_of r) [] 0 k k f (room_at k b) refl room there
        (room_there r (hoisted r) 0 (bodies_of r) (marks_of r) k k b own z) z

    top_is : top k ≡ end_of taken k f (room_at k b) ended.before
    top_is = ap end_number ended.there

  callers_are : (k : ℕ) (f : Form) (b : FormBody) (there : slice_get r.forms k ≡ Some f)
      (own : slice_get (bodies_of r) k ≡ Some b)
      → callers_top r.forms top f.level f.caller ≡ callers_end (ended k f b there own).before f.level f.caller
  callers_are k f b there own = by f.caller refl
    where
      by : (o : Option Caller) → f.caller ≡ o
          → callers_top r.forms top f.level o ≡ callers_end (ended k f b there own).before f.level o
      by None e = refl
      by (Some c) e =
          let less = callers r.typed.now.tasks r.mapping.now (record {
            found = r.found.entries;
            forms = r.forms;
            uses = r.uses;
          }) w.through k f c there e in
          let long = slice_get_within r.forms k f there in
          let from = at_index r.forms c.form (omega (arith, less, long)) in
          let body = body_there c.form from.0 from.1 in
          let at = ended c.form from.0 body.0 from.1 body.1 in
          let before = sym ((ended k f b there own).same c.form less) ∙ at.there in
          ap (level_top f.level (top c.form)) from.1
          ∙ ap (λ (o : Option Ended). if from.0.level == f.level then end_number o else 0) at.there
          ∙ sym (ap (end_at f.level) before)

  -- The forms end there where each brings no more than its bytes.
  pub forms_end : (choices : List Choice)
      → ((k : ℕ) (b : FormBody) → sizes_of b (standing b (choice_in choices k))
      ≤ bytes_of (room_of r b (choice_in (hoisted r) k) (get_or (marks_of r) k [])) (get_or taken k false))
      → FormsEnd r choices top
  forms_end choices less k f b there own =
      let bytes = less k b in
      let before = callers_are k f b there own in
      let is = top_is k f b there own in
      omega (arith, bytes, before, is)

  -- and their nodes have room
  pub top_fits : (k : ℕ) (f : Form) → slice_get r.forms k ≡ Some f
      → top k ≤ least_room (get_or (marks_of r) k []) 0 r.machine.now.nodes no_bound
  top_fits k f there =
      let own = body_there k f there in
      let fits = (ended k f own.0 there own.1).fits in
      let is = top_is k f own.0 there own.1 in
      omega (arith, fits, is)
