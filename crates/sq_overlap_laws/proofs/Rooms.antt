-- There is room for the loops that are taken exactly where no node needs more than it has.
use Rattle.std.proofs.Common.{◌≡◌, ◌⊎◌, inl, inr, ℕ, zero, suc, ◌+◌, ◌<◌, ◌≤◌, ◌&&◌, Bool, true, false, List, []}
use Rattle.std.proofs.Common.{◌∷◌, ◌++◌, length, get_or, slice_get, Option, Some, None, refl, sym, ap, ap₂, subst, ◌∙◌, arith}
use Rattle.std.proofs.Common.{if◌then◌else◌}
use Rattle.std.specs.Prelude.{nat_le}
use Rattle.std.proofs.lemmas.Bool.Decides.{nat_tests}
use Rattle.std.proofs.lemmas.List.{length-append}
use Rattle.sq_machfile.specs.Machines.{WithinLimits}
use Rattle.sq_forms.specs.declared.form.Caller.{Caller}
use Rattle.sq_forms.specs.declared.form.Form.{Form}
use Rattle.sq_spec.proofs.FormLaws.AnswerHold.{forms_are_found, forms_callers_first}
use Rattle.sq_spec.specs.declared.body.FormBody.{FormBody}
use Rattle.sq_spec.specs.declared.resolved.Resolved.{Resolved}
use Rattle.sq_spec_laws.specs.Needs.{Ended, end_at, callers_end}
use Rattle.sq_plan_good.specs.Homes.Chosen.declared.choice.Choice.{Choice}
use Rattle.sq_plan_good.specs.Homes.Chosen.Forms.{choice_in, bodies_of}
use Rattle.sq_plan_good.specs.DraftLaws.Choosing.{Walked}
use Rattle.sq_plan_good.proofs.DraftLaws.Forms.{body_at, body_there, resolving}
use Rattle.sq_plan_good.proofs.DraftLaws.Hoisting.{bodies_many}
use Rattle.sq_pass_laws.specs.Hoist.Choices.{hoisted}
use Rattle.sq_pass_laws.specs.Pipe.declared.candidate.Candidate.{Candidate}
use Rattle.sq_pass_laws.specs.Pipe.declared.room.Room.{Room}
use Rattle.sq_pass_laws.specs.Pipe.Runs.{Marks, marks_of, least_room, no_bound}
use Rattle.sq_pass_laws.specs.Pipe.Greedy.{room_of, rooms_by, rooms_of, bytes_of, have_room, with_form, none_taken, taken_from}
use Rattle.sq_pass_laws.specs.Pipe.Greedy.{candidates_of}
use Rattle.sq_overlap_laws.specs.Taken.{form_size, EndsAt, IsEnd, AllHaveBytes, TakenExactly}
use Rattle.sq_overlap_laws.specs.Taken.{TakenInTurn, none, takes, passes, LoopsAreTakenInTurn, TakenAreOne}
use Rattle.sq_overlap_laws.proofs.Ends.{ends_one, ends_called, ends_first, form_ends, need_there}
use Rattle.sq_overlap_laws.proofs.Nodes.{room_is_least}
use Rattle.sq_overlap_laws.proofs.Sizes.{form_owns, form_doubles}

some_same : {A : Type 0} (x y : A) → Some x ≡ Some y → x ≡ y
some_same x y h = cc h

-- ---- tests and lists

both_hold : (x y : Bool) → (x && y) ≡ true → (x ≡ true) × (y ≡ true)
both_hold true true e = (refl, refl)
both_hold true false e = absurd (cc e)
both_hold false y e = absurd (cc e)

both_are : (x y : Bool) → x ≡ true → y ≡ true → (x && y) ≡ true
both_are true true a b = refl
both_are true false a b = absurd (cc b)
both_are false y a b = absurd (cc a)

no_more : (m n : ℕ) → nat_le m n ≡ true → m ≤ n
no_more m n e = grind (arith, nat_tests, e)

is_no_more : (m n : ℕ) → m ≤ n → nat_le m n ≡ true
is_no_more m n e = grind (arith, nat_tests, e)

front : {A : Type 0} (xs ys : List A) (i : ℕ) → i < length xs → slice_get (xs ++ ys) i ≡ slice_get xs i
front [] ys i h = absurd (omega (arith, h))
front (x ∷ xs) ys zero h = refl
front (x ∷ xs) ys (suc i) h = front xs ys i (omega (arith, h))

behind_last : {A : Type 0} (xs : List A) (x : A) → slice_get (xs ++ x ∷ []) (length xs) ≡ Some x
behind_last [] x = refl
behind_last (y ∷ xs) x = behind_last xs x

last_or : (k n : ℕ) → k < suc n → (k < n) ⊎ (k ≡ n)
last_or zero zero h = inr refl
last_or zero (suc n) h = inl (omega arith)
last_or (suc k) zero h = absurd (omega (arith, h))
last_or (suc k) (suc n) h = next (last_or k n (omega (arith, h)))
  where
    next : (k < n) ⊎ (k ≡ n) → (suc k < suc n) ⊎ (suc k ≡ suc n)
    next (inl l) = inl (omega (arith, l))
    next (inr e) = inr (ap suc e)

-- ---- what is known of forms

room_there : (r : Resolved) (choices : List Choice) (k : ℕ) (bs : List FormBody) (marks : List Marks) (i m : ℕ)
    (b : FormBody) → slice_get bs i ≡ Some b → m ≡ k + i
    → slice_get (rooms_by r choices k bs marks) i ≡ Some (room_of r b (choice_in choices m) (get_or marks m []))
room_there r choices k [] marks i m b h e = absurd (cc h)
room_there r choices k (c ∷ bs) marks zero m b h e =
    let b_is : c ≡ b = cc h in
    let at : k ≡ m = omega (arith, e) in
    ap (λ n. Some (room_of r c (choice_in choices n) (get_or marks n []))) at
    ∙ ap (λ (d : FormBody). Some (room_of r d (choice_in choices m) (get_or marks m []))) b_is
room_there r choices k (c ∷ bs) marks (suc i) m b h e =
    room_there r choices (k + 1) bs marks i m b h (omega (arith, e))

-- ---- forms in turn

module _ (r : Resolved) (w : Walked r) (taken : List Bool) where
  abbrev Ends : ℕ → ℕ → Type 0
  Ends = EndsAt r taken

  abbrev room : ℕ → ℕ
  room k = least_room (get_or (marks_of r) k []) 0 r.machine.now.nodes no_bound

  -- the k-th form has this end in a list of ends
  record IsEnded (ended : List Ended) (k : ℕ) : Type 0 where
    form : Form
    form_there : slice_get r.forms k ≡ Some form
    end : ℕ
    there : slice_get ended k ≡ Some (form, end)
    ends : EndsAt r taken k end

  abbrev AreEnded : List Ended → ℕ → Type 0
  AreEnded ended n = (k : ℕ) → k < n → IsEnded ended k

  -- a form's bytes
  room_is : (k : ℕ) (f : Form) (x : Room) → slice_get r.forms k ≡ Some f → slice_get (rooms_of r) k ≡ Some x
      → x ≡ room_of r (body_at r k) (choice_in (hoisted r) k) (get_or (marks_of r) k [])
  room_is k f x there at =
      let e = forms_are_found r.typed.now.tasks r.mapping.now (resolving r) w.through k f there in
      let z : k ≡ 0 + k = omega arith in
      some_same x _ (sym at ∙ room_there r (hoisted r) 0 (bodies_of r) (marks_of r) k k (body_at r k)
      (body_there r w k e.found e.there) z)

  size_is : (k : ℕ) (f : Form) (x : Room) → slice_get r.forms k ≡ Some f → slice_get (rooms_of r) k ≡ Some x
      → bytes_of x (get_or taken k false) ≡ form_size r taken k f
  size_is k f x there at =
      ap (λ (y : Room). bytes_of y (get_or taken k false)) (room_is k f x there at)
      ∙ ap₂ (λ m n. m + (if get_or taken k false then n else 0)) (form_owns r w k f there) (form_doubles r w k f there)

  least_is : (k : ℕ) (f : Form) (x : Room) → slice_get r.forms k ≡ Some f → slice_get (rooms_of r) k ≡ Some x
      → x.room ≡ room k
  least_is k f x there at = ap (λ (y : Room). y.room) (room_is k f x there at)

  -- and its end
  end_is : (ended : List Ended) (k : ℕ) (f : Form) → AreEnded ended k → slice_get r.forms k ≡ Some f
      → Ends k (callers_end ended f.level f.caller + form_size r taken k f)
  end_is ended k f before there = by f.caller refl
    where
      by : (o : Option Caller) → f.caller ≡ o → Ends k (callers_end ended f.level o + form_size r taken k f)
      by None first = ends_first r taken k f there first
      by (Some c) p =
          let low = forms_callers_first r.typed.now.tasks r.mapping.now (resolving r) w.through k f c there p in
          let up = before c.form low in
          subst (λ (o : Option Ended). Ends k (end_at f.level o + form_size r taken k f)) (sym up.there)
          (ends_called r taken k up.end f up.form c there p up.form_there up.ends)

  -- what is left of the forms, and of their room, from the k-th on
  record AreLeft (k : ℕ) (fs : List Form) (rooms : List Room) (ended : List Ended) : Type 0 where
    forms : (j : ℕ) (f : Form) → slice_get fs j ≡ Some f → slice_get r.forms (k + j) ≡ Some f
    all : length r.forms ≡ k + length fs
    rooms_there : (j : ℕ) (x : Room) → slice_get rooms j ≡ Some x → slice_get (rooms_of r) (k + j) ≡ Some x
    many : length rooms ≡ length fs
    long : length ended ≡ k
    before : (i : ℕ) → i < k → IsEnded ended i

  module _ (k : ℕ) (f : Form) (fs : List Form) (x : Room) (rooms : List Room) (ended : List Ended)
      (left : AreLeft k (f ∷ fs) (x ∷ rooms) ended) where
    own_there : slice_get r.forms k ≡ Some f
    own_there = let z : k ≡ k + 0 = omega arith in ap (slice_get r.forms) z ∙ left.forms 0 f refl

    own_room : slice_get (rooms_of r) k ≡ Some x
    own_room = let z : k ≡ k + 0 = omega arith in ap (slice_get (rooms_of r)) z ∙ left.rooms_there 0 x refl

    abbrev own_end : ℕ
    own_end = callers_end ended f.level f.caller + bytes_of x (get_or taken k false)

    own_ends : EndsAt r taken k (callers_end ended f.level f.caller + bytes_of x (get_or taken k false))
    own_ends =
        subst (λ n. Ends k (callers_end ended f.level f.caller + n)) (sym (size_is k f x own_there own_room))
        (end_is ended k f left.before own_there)

    next_left : AreLeft (k + 1) fs rooms
        (ended ++ (f, callers_end ended f.level f.caller + bytes_of x (get_or taken k false)) ∷ [])
    next_left =
        let more : Ended = (f, own_end) in
        let all = left.all in
        let many = left.many in
        let long = left.long in
        let longer = length-append ended (more ∷ []) in
        record {
          forms = λ j g h. let z : k + 1 + j ≡ k + suc j = omega arith in ap (slice_get r.forms) z ∙ left.forms (suc j) g h;
          all = omega (arith, all);
          rooms_there = λ j y h. let z : k + 1 + j ≡ k + suc j = omega arith in
              ap (slice_get (rooms_of r)) z ∙ left.rooms_there (suc j) y h;
          many = omega (arith, many);
          long = omega (arith, long, longer);
          before = λ i less. by i (last_or i k (omega (arith, less)));
        }
      where
        by : (i : ℕ) → (i < k) ⊎ (i ≡ k) → IsEnded (ended ++ (f, own_end) ∷ []) i
        by i (inl l) =
            let b = left.before i l in
            let long = left.long in
            record {
              form = b.form;
              form_there = b.form_there;
              end = b.end;
              there = front ended ((f, own_end) ∷ []) i (omega (arith, l, long)) ∙ b.there;
              ends = b.ends;
            }
        by i (inr e) =
            subst (IsEnded (ended ++ (f, own_end) ∷ [])) (sym e)
            (record {
              form = f;
              form_there = own_there;
              end = own_end;
              there = ap (slice_get (ended ++ (f, own_end) ∷ [])) (sym left.long) ∙ behind_last ended (f, own_end);
              ends = own_ends;
            })

  -- where there is room each form ends within the least room of its nodes
  fits : (fs : List Form) (rooms : List Room) (ended : List Ended) (k : ℕ) → AreLeft k fs rooms ended
      → have_room taken k fs rooms ended ≡ true → (j : ℕ) (f : Form) → slice_get fs j ≡ Some f → (n : ℕ)
      → EndsAt r taken (k + j) n → n ≤ room (k + j)
  fits [] rooms ended k left has j f h n ends = absurd (cc h)
  fits (g ∷ fs) [] ended k left has j f h n ends = let many = left.many in absurd (omega (arith, many))
  fits (g ∷ fs) (x ∷ rooms) ended k left has zero f h n ends =
      let z : k + 0 ≡ k = omega arith in
      let holds = both_hold (nat_le (own_end k g fs x rooms ended left) x.room)
      (have_room taken (k + 1) fs rooms (ended ++ (g, own_end k g fs x rooms ended left) ∷ [])) has in
      let low = no_more (own_end k g fs x rooms ended left) x.room holds.0 in
      let same = ends_one r taken (subst (λ i. Ends i n) z ends) (own_ends k g fs x rooms ended left) in
      let least = least_is k g x (own_there k g fs x rooms ended left) (own_room k g fs x rooms ended left) in
      let at : room (k + 0) ≡ room k = ap room z in
      omega (arith, low, same, least, at)
  fits (g ∷ fs) (x ∷ rooms) ended k left has (suc j) f h n ends =
      let z : k + suc j ≡ k + 1 + j = omega arith in
      let holds = both_hold (nat_le (own_end k g fs x rooms ended left) x.room)
      (have_room taken (k + 1) fs rooms (ended ++ (g, own_end k g fs x rooms ended left) ∷ [])) has in
      let rest = fits fs rooms (ended ++ (g, own_end k g fs x rooms ended left) ∷ []) (k + 1)
      (next_left k g fs x rooms ended left) holds.1 j f h n (subst (λ i. Ends i n) z ends) in
      subst (λ i. n ≤ room i) (sym z) rest

  -- and there is where each does
  has_room : (fs : List Form) (rooms : List Room) (ended : List Ended) (k : ℕ) → AreLeft k fs rooms ended
      → ((i : ℕ) (f : Form) (n : ℕ) → slice_get r.forms i ≡ Some f → EndsAt r taken i n → n ≤ room i)
      → have_room taken k fs rooms ended ≡ true
  has_room [] rooms ended k left each = refl
  has_room (g ∷ fs) [] ended k left each = refl
  has_room (g ∷ fs) (x ∷ rooms) ended k left each =
      let there = own_there k g fs x rooms ended left in
      let low = each k g (own_end k g fs x rooms ended left) there (own_ends k g fs x rooms ended left) in
      let least = least_is k g x there (own_room k g fs x rooms ended left) in
      both_are (nat_le (own_end k g fs x rooms ended left) x.room)
      (have_room taken (k + 1) fs rooms (ended ++ (g, own_end k g fs x rooms ended left) ∷ []))
      (is_no_more (own_end k g fs x rooms ended left) x.room (omega (arith, low, least)))
      (has_room fs rooms (ended ++ (g, own_end k g fs x rooms ended left) ∷ []) (k + 1)
      (next_left k g fs x rooms ended left) each)

-- ---- a program

rooms_many : (r : Resolved) (k : ℕ) (bs : List FormBody) → length (rooms_by r (hoisted r) k bs (marks_of r)) ≡ length bs
rooms_many r k [] = refl
rooms_many r k (b ∷ bs) = ap suc (rooms_many r (k + 1) bs)

module _ (r : Resolved) (w : Walked r) (taken : List Bool) where
  all_left : AreLeft r w taken 0 r.forms (rooms_of r) []
  all_left = record {
    forms = λ j f h. let z : 0 + j ≡ j = omega arith in ap (slice_get r.forms) z ∙ h;
    all = omega arith;
    rooms_there = λ j x h. let z : 0 + j ≡ j = omega arith in ap (slice_get (rooms_of r)) z ∙ h;
    many = rooms_many r 0 (bodies_of r) ∙ bodies_many r (hoisted r);
    long = refl;
    before = λ i less. absurd (omega (arith, less));
  }

  form_fits : have_room taken 0 r.forms (rooms_of r) [] ≡ true → (k : ℕ) (f : Form) → slice_get r.forms k ≡ Some f
      → (n : ℕ) → EndsAt r taken k n → n ≤ least_room (get_or (marks_of r) k []) 0 r.machine.now.nodes no_bound
  form_fits has k f there n ends =
      let z : k ≡ 0 + k = omega arith in
      subst (λ i. n ≤ room r w taken i) (sym z)
      (fits r w taken r.forms (rooms_of r) [] 0 all_left has k f there n (subst (λ i. EndsAt r taken i n) z ends))

  module _ (limits : WithinLimits r.machine.now) where
    enough : have_room taken 0 r.forms (rooms_of r) [] ≡ true → AllHaveBytes r taken
    enough has node own there =
        let n = need_there r taken w limits node in
        record { need = n.0; needs = n.1; fits = by n.0 n.1.is }
      where
        by : (need : ℕ) → (need ≡ 0) ⊎ IsEnd r taken node need → need ≤ own.capacity
        by need (inl z) = omega (arith, z)
        by need (inr i) =
            let f = form_ends r taken i.ends in
            let low = form_fits has i.form f.0 f.1 need i.ends in
            let least = (room_is_least r w limits i.form f.0 f.1).least node own i.runs there in
            omega (arith, low, least)

    has : AllHaveBytes r taken → have_room taken 0 r.forms (rooms_of r) [] ≡ true
    has all = has_room r w taken r.forms (rooms_of r) [] 0 all_left each
      where
        each : (k : ℕ) (f : Form) (n : ℕ) → slice_get r.forms k ≡ Some f → EndsAt r taken k n → n ≤ room r w taken k
        each k f n there ends =
            let at = (room_is_least r w limits k f there).is in
            let b = all at.node at.own at.own_there in
            let low = b.needs.greatest n (record { form = k; runs = at.runs; ends = ends }) in
            let fit = b.fits in
            let is = at.holds in
            omega (arith, low, fit, is)

pub taken_exactly : TakenExactly
taken_exactly r w limits taken = record { there = enough r w taken limits; back = has r w taken limits }

-- ---- candidates in turn

module _ (r : Resolved) (w : Walked r) (limits : WithinLimits r.machine.now) where
  abbrev fits_all : List Bool → Bool
  fits_all taken = have_room taken 0 r.forms (rooms_of r) []

  in_turn : (cs : List Candidate) (before : List Bool)
      → TakenInTurn r cs before (taken_from (λ taken. have_room taken 0 r.forms (rooms_of r) []) before cs)
  in_turn [] before = none
  in_turn (c ∷ cs) before =
      by (fits_all (with_form before c.form)) refl (λ next. in_turn cs next)
    where
      by : (v : Bool) → fits_all (with_form before c.form) ≡ v
          → ((next : List Bool) → TakenInTurn r cs next (taken_from fits_all next cs))
          → TakenInTurn r (c ∷ cs) before (taken_from fits_all (if v then with_form before c.form else before) cs)
      by true fit rest = takes ((taken_exactly r w limits (with_form before c.form)).there fit) (rest (with_form before c.form))
      by false unfit rest =
          passes (λ all. absurd (let z : true ≡ false
          = sym ((taken_exactly r w limits (with_form before c.form)).back all) ∙ unfit in cc z)) (rest before)

pub loops_are_taken_in_turn : LoopsAreTakenInTurn
loops_are_taken_in_turn r w limits = in_turn r w limits (candidates_of r) (none_taken r.forms)

pub taken_are_one : TakenAreOne
taken_are_one r [] before first second none none = refl
taken_are_one r (c ∷ cs) before first second (takes a rest) (takes b more) =
    taken_are_one r cs (with_form before c.form) first second rest more
taken_are_one r (c ∷ cs) before first second (takes a rest) (passes b more) = absurd (b a)
taken_are_one r (c ∷ cs) before first second (passes a rest) (takes b more) = absurd (a b)
taken_are_one r (c ∷ cs) before first second (passes a rest) (passes b more) =
    taken_are_one r cs before first second rest more
