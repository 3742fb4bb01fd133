-- The loops of a program that overlap their transfers may do so.
use Rattle.std.proofs.Common.{◌≡◌, inl, inr, ℕ, zero, suc, ◌+◌, ◌<◌, Bool, true, false, List, [], ◌∷◌, ◌++◌}
use Rattle.std.proofs.Common.{length, get_or, slice_get, Option, Some, None, refl, sym, ap, subst, ◌∙◌, arith}
use Rattle.sq_blocks.specs.declared.argument.Argument.{Argument}
use Rattle.sq_forms.specs.declared.form.Form.{Form}
use Rattle.sq_form_laws.proofs.RanHold.{as_many_forms}
use Rattle.sq_spec.specs.declared.statement.CallInstance.{CallInstance}
use Rattle.sq_spec.specs.declared.statement.Statement.{Statement}
use Rattle.sq_spec.specs.declared.body.Body.{Body}
use Rattle.sq_spec.specs.declared.body.Body.TheVariants as body
use Rattle.sq_spec.specs.declared.body.FormBody.{FormBody}
use Rattle.sq_spec.specs.declared.resolved.Resolved.{Resolved}
use Rattle.sq_spec.specs.Bodies.{no_body}
use Rattle.sq_spec_laws.specs.TableRows.{Table, tables_in}
use Rattle.sq_placed.specs.declared.home.Home.TheVariants.{InPlace}
use Rattle.sq_placed.specs.Pipes.{CallLoop, call_loops_of, LoopsStand}
use Rattle.sq_draft_laws.specs.TermLaws.Orders.{EachOf}
use Rattle.sq_draft_laws.specs.TermLaws.Overlapping.{BodyOverlaps}
use Rattle.sq_draft_laws.specs.ProgramLaws.Held.{HoldsFit}
use Rattle.sq_draft_laws.specs.ProgramLaws.Piped.{IsDoubled, MayOverlap, PipesFit}
use Rattle.sq_draft_laws.proofs.ProgramLaws.Loops.{each_both, each_from, each_map}
use Rattle.sq_draft_laws.proofs.ProgramLaws.Unpiped.{pipes_fit_stand}
use Rattle.sq_draft_laws.specs.Homes.Chosen.declared.choice.Choice.{Choice}
use Rattle.sq_draft_laws.specs.Homes.Chosen.Forms.{bodies_of, choice_in}
use Rattle.sq_draft_laws.specs.Choosing.{Walked, IsChosenFor, MayBeChosen}
use Rattle.sq_draft_laws.proofs.Hoisting.{at_index, bodies_many, no_item}
use Rattle.sq_draft_laws.proofs.Programs.{bodies_are_tables}
use Rattle.sq_pipe.specs.Hoist.Choices.{hoisted}
use Rattle.sq_pass_laws.proofs.HoistLists.{each_two}
use Rattle.sq_pass_laws.proofs.HoistPrograms.{bodies, choice_is, no_choice_is, body_at, its, list_numbered, all_own}
use Rattle.sq_pass_laws.proofs.HoistPrograms.{bodies_so, entry_stays, loops_may_be_left, they_hold, choices_are_hoisted}
use Rattle.sq_pass_laws.proofs.HoistPrograms.{BodySo, IsOwn, AreOwn, AllOwn, body_within, next_own, first_own}
use Rattle.sq_pass_laws.proofs.Sites.{IsWithin}
use Rattle.sq_pass_laws.proofs.Tables.{caller_of, number_of, IsFlat, RowIs, ListIs, BodyIs}
use Rattle.sq_pipe.specs.declared.candidate.Candidate.{Candidate}
use Rattle.sq_pipe.specs.Runs.{Marks, marks_of, most_children}
use Rattle.sq_pipe.specs.Candidates.{candidates}
use Rattle.sq_pipe.specs.Greedy.{body_candidates, candidates_from, candidates_of, overlapped}
use Rattle.sq_pass_laws.proofs.Candidates.{IsIn, CandidatesSo, so_in, all_have, AreWithin, in_front, in_back}
use Rattle.sq_pass_laws.proofs.Choices.{homes, left_as, flags_as, chosen_in, overlaps_there, doubled_at, moved_at}
use Rattle.sq_pass_laws.proofs.Loops.{AreSuited, MayIfTaken, TableFits, list_stands}

within_length : {A : Type 0} (xs : List A) (j : ℕ) (x : A) → slice_get xs j ≡ Some x → j < length xs
within_length [] j x e = absurd (cc e)
within_length (y ∷ xs) zero x e = omega arith
within_length (y ∷ xs) (suc j) x e = let l = within_length xs j x e in omega (arith, l)

module _ (r : Resolved) (marks : List Marks) where
  abbrev pub leaves : ℕ → List ℕ
  leaves f = (choice_in (hoisted r) f).leaves

  abbrev pub children : ℕ → ℕ
  children k = most_children (get_or marks k []) 0 r.machine.now.nodes 0

  -- ---- the candidates of all forms

  module _ (Q : ℕ → Type 0) where
    body_have : (many k : ℕ) (b : Body) → BodySo Q b → CandidatesSo Q (body_candidates r many k b)
    body_have many k (body.Leaf code) h = tt
    body_have many k (body.Inner list) h = all_have Q leaves many k list false None h

    forms_have : (at : ℕ) (bs : List FormBody)
        → ((j : ℕ) (b : FormBody) → slice_get bs j ≡ Some b → BodySo Q b.body)
        → CandidatesSo Q (candidates_from r at bs marks)
    forms_have at [] h = tt
    forms_have at (b ∷ bs) h =
        each_both (λ (c : Candidate). Q c.form) (body_candidates r (children at) at b.body)
        (candidates_from r (at + 1) bs marks)
        (body_have (children at) at b.body (h 0 b refl)) (forms_have (at + 1) bs (λ j c e. h (suc j) c e))

  module _ (caller : ℕ → ℕ) (over : ℕ → Type 0) where
    -- a form that overlaps its transfers is that of a candidate among these
    abbrev IsAmong : List Candidate → CallInstance → Type 0
    IsAmong cs q = over q.form → IsIn q.form cs

    abbrev AreAmong : List Candidate → List Table → Type 0
    AreAmong cs ts = EachOf (λ (t : Table). EachOf (IsAmong cs) t.times) ts

    narrow : (cs ds : List Candidate) (k : ℕ) (ts : List Table)
        → EachOf (λ (t : Table). EachOf (IsOwn caller k) t.times) ts
        → ((q : CallInstance) → IsOwn caller k q → IsIn q.form cs → IsIn q.form ds) → AreAmong cs ts → AreAmong ds ts
    narrow cs ds k [] own f h = tt
    narrow cs ds k (t ∷ ts) own f h = (
      each_two (IsOwn caller k) (IsAmong cs) (IsAmong ds) t.times (λ q o g v. f q o (g v)) own.0 h.0,
      narrow cs ds k ts own.1 f h.1,
    )

    all_within : (at : ℕ) (bs : List FormBody) → AllOwn caller at bs
        → AreWithin caller at (at + length bs) (candidates_from r at bs marks)
    all_within at bs h =
        forms_have (IsWithin caller at (at + length bs)) at bs (λ j b e.
        let l = within_length bs j b e in
        body_within caller (at + j) b.body (h j b e) at (at + length bs) (omega arith) (omega (arith, l)))

    next : (at : ℕ) (b : FormBody) (bs : List FormBody) → AllOwn caller at (b ∷ bs) → AllOwn caller (at + 1) bs
    next at b bs h =
        let z : suc at ≡ at + 1 = omega arith in subst (λ n. AllOwn caller n bs) z (next_own caller at b bs h)

    -- the candidates at the calls of a form are its own
    form_local : (at : ℕ) (bs : List FormBody) → AllOwn caller at bs → (j : ℕ) (b : FormBody) (list : List Statement)
        → slice_get bs j ≡ Some b → b.body ≡ body.Inner list
        → AreAmong (candidates_from r at bs marks) (tables_in list None)
        → AreAmong (candidates leaves (children (at + j)) (at + j) list) (tables_in list None)
    form_local at [] own j b list e is h = absurd (cc e)
    form_local at (c ∷ bs) own zero b list e is h =
        let same : c ≡ b = cc e in
        let body_is : c.body ≡ body.Inner list = ap (λ (x : FormBody). x.body) same ∙ is in
        let here = subst (AreOwn caller at) body_is (first_own caller at c bs own) in
        let rest = candidates_from r (at + 1) bs marks in
        let w = all_within (at + 1) bs (next at c bs own) in
        let z : at ≡ at + 0 = omega arith in
        subst (λ n. AreAmong (candidates leaves (children n) n list) (tables_in list None)) z
        (narrow (body_candidates r (children at) at (body.Inner list) ++ rest) (candidates leaves (children at) at list)
        at (tables_in list None) here
        (λ q o g. in_front caller (at + 1) (at + 1 + length bs) (candidates leaves (children at) at list) rest w q.form
        (inl (omega (arith, o))) g)
        (subst (λ (x : Body). AreAmong (body_candidates r (children at) at x ++ rest) (tables_in list None)) body_is h))
    form_local at (c ∷ bs) own (suc j) b list e is h =
        let front = body_candidates r (children at) at c.body in
        let rest = candidates_from r (at + 1) bs marks in
        let w = body_have (IsWithin caller at (suc at)) (children at) at c.body
        (body_within caller at c.body (first_own caller at c bs own) at (suc at) (omega arith) (omega arith)) in
        let here = subst (AreOwn caller (at + suc j)) is (own (suc j) b e) in
        let z : at + 1 + j ≡ at + suc j = omega arith in
        subst (λ n. AreAmong (candidates leaves (children n) n list) (tables_in list None)) z
        (form_local (at + 1) bs (next at c bs own) j b list e is
        (narrow (front ++ rest) rest (at + suc j) (tables_in list None) here
        (λ q o g. in_back caller at (suc at) front rest w q.form (inr (omega (arith, o))) g) h))

-- ---- a program

module _ (r : Resolved) (w : Walked r) where
  candidates_so : (Q : ℕ → Type 0) → ((k i : ℕ) (q : CallInstance) → RowIs r w k i true q → Q q.form)
      → CandidatesSo Q (candidates_of r)
  candidates_so Q f = forms_have r (marks_of r) Q 0 (bodies_of r) (bodies_so r w Q f)

  entry_isnt : (choice_in (overlapped r) 0).overlaps ≡ false
  entry_isnt = by (choice_in (overlapped r) 0).overlaps refl
    where
      by : (t : Bool) → (choice_in (overlapped r) 0).overlaps ≡ t → t ≡ false
      by true e = absurd (so_in (λ f. f ≡ 0 → ⊥) (candidates_of r)
          (candidates_so (λ f. f ≡ 0 → ⊥) (λ k i q row. row.not_entry)) 0 (chosen_in r 0 e) refl)
      by false e = refl

  entry_so : (homes r 0).overlaps ≡ false
  entry_so = by (homes r 0).overlaps refl
    where
      by : (t : Bool) → (homes r 0).overlaps ≡ t → t ≡ false
      by true e = absurd (let f = entry_isnt in let o = (overlaps_there r 0 e).chosen in cc (sym f ∙ o))
      by false e = refl

  suited : AreSuited (homes r) (leaves r (marks_of r))
  suited = record { entry = entry_so; moved = moved_at r }

  -- a form that is there
  form_at : (k : ℕ) (b : FormBody) → slice_get (bodies_of r) k ≡ Some b → (f : Form) × (slice_get r.forms k ≡ Some f)
  form_at k b h =
      let l = within_length (bodies_of r) k b h in
      let m = bodies_many r (overlapped r) in
      at_index r.forms k (omega (arith, l, m))

  flags_of_form : (k : ℕ) (f : Form) → slice_get r.forms k ≡ Some f
      → (choice_in (overlapped r) k).in_place ≡ f.in_place
  flags_of_form k f e = flags_as r k ∙ ap (λ (c : Choice). c.in_place) (choice_is r w k f e)

  row_doubled : (k i : ℕ) (q : CallInstance) → RowIs r w k i true q → (homes r q.form).overlaps ≡ true → (j : ℕ)
      (a : Argument)
      → slice_get q.args j ≡ Some a → IsDoubled (get_or (homes r q.form).params j InPlace)
  row_doubled k i q row over j a at =
      let t = overlaps_there r q.form over in
      let f = form_at q.form t.body t.there in
      let flags = flags_of_form q.form f.0 f.1 in
      let few = within_length q.args j a at in
      let many = ap length flags ∙ row.many f.0 f.1 in
      doubled_at r q.form over j (omega (arith, few, many))
      (ap (λ (fs : List Bool). get_or fs j false) flags ∙ row.flat refl f.0 f.1 j)

  -- ---- each form

  abbrev pub MayAt : ℕ → CallLoop → Type 0
  MayAt k = MayIfTaken (homes r) (leaves r (marks_of r)) (children r (marks_of r) k)

  record IsGood (k : ℕ) (b : Body) : Type 0 where
    calls : BodyOverlaps (homes r) b
    loops : EachOf (MayAt k) (call_loops_of b)

  nothing_good : (k : ℕ) → IsGood k (body.Inner [])
  nothing_good k = record { calls = tt; loops = tt }

  among_all : (ts : List Table)
      → AreAmong r (marks_of r) (caller_of r w) (λ f. (homes r f).overlaps ≡ true) (candidates_of r) ts
  among_all ts = each_from
      (λ (t : Table). EachOf (λ (q : CallInstance). (homes r q.form).overlaps ≡ true → IsIn q.form (candidates_of r))
      t.times) ts (λ i t g. each_from
      (λ (q : CallInstance). (homes r q.form).overlaps ≡ true → IsIn q.form (candidates_of r)) t.times
      (λ j q d over. chosen_in r q.form (overlaps_there r q.form over).chosen))

  list_good : (k : ℕ) (b : FormBody) (list : List Statement) → slice_get (bodies_of r) k ≡ Some b
      → b.body ≡ body.Inner list → ListIs r w k list → IsGood k (body.Inner list)
  list_good k b list e is h =
      let z : 0 + k ≡ k = omega arith in
      let ms = marks_of r in
      let over : ℕ → Type 0 = λ f. (homes r f).overlaps ≡ true in
      let local = form_local r ms (caller_of r w) over 0 (bodies_of r) (all_own r w) k b list e is
      (among_all (tables_in list None)) in
      let mine = subst (λ n. AreAmong r ms (caller_of r w) over (candidates (leaves r ms) (children r ms n) n list)
      (tables_in list None)) z local in
      let all = list_stands (homes r) (leaves r ms) suited (number_of r w) (children r ms k) k list false None 0 1
      (record {
        numbered = list_numbered r w k list h;
        fits = each_from (TableFits (homes r) (leaves r ms) suited (number_of r w) (children r ms k) k)
            (tables_in list None) (λ i t g. record {
              alike = (h.tables i t g).alike;
              doubled = λ low.
                  each_map (RowIs r w k i t.lower) (λ (q : CallInstance). over q.form → (j : ℕ) (a : Argument)
                  → slice_get q.args j ≡ Some a → IsDoubled (get_or (homes r q.form).params j InPlace)) t.times
                  (λ q row. row_doubled k i q (subst (λ l. RowIs r w k i l q) low row)) (h.tables i t g).rows;
            });
        taken = mine;
      }) h.begun in
      record { calls = all.0 false; loops = all.1 }

  body_good : (k : ℕ) (b : FormBody) → slice_get (bodies_of r) k ≡ Some b → (x : Body) → b.body ≡ x → BodyIs r w k x
      → IsGood k x
  body_good k b e (body.Leaf code) is h = record { calls = tt; loops = tt }
  body_good k b e (body.Inner list) is h = list_good k b list e is h

  form_good : (k : ℕ) → IsGood k (bodies r w k).body
  form_good k = by (slice_get (bodies_of r) k) refl
    where
      by : (o : Option FormBody) → slice_get (bodies_of r) k ≡ o → IsGood k (bodies r w k).body
      by (Some b) e =
          subst (λ (x : FormBody). IsGood k x.body) (sym (body_at r w k b e))
          (body_good k b e b.body refl (subst (λ (x : FormBody). BodyIs r w k x.body) (body_at r w k b e) (its r w k)))
      by None e =
          subst (λ (x : FormBody). IsGood k x.body)
          (sym (no_item (bodies_of r) k no_body e) ∙ bodies_are_tables as_many_forms r k) (nothing_good k)

  pub loops_may : (k : ℕ) → EachOf (MayAt k) (call_loops_of (bodies r w k).body)
  loops_may k = (form_good k).loops

  -- ---- the laws

  pub overlaps_fit : PipesFit (bodies r w) (homes r)
  overlaps_fit = record {
    loops = λ k. each_map (MayAt k) (MayOverlap (homes r)) (call_loops_of (bodies r w k).body)
        (λ l h over. (h over).overlaps) (loops_may k);
  }

  pub overlaps_hold : HoldsFit (bodies r w) (homes r)
  overlaps_hold = they_hold r w (overlapped r) (left_as r)

  none_in_place : (k : ℕ) → (choice_in (overlapped r) k).overlaps ≡ true → (i : ℕ)
      → get_or (choice_in (overlapped r) k).in_place i false ≡ false
  none_in_place k over i = by (slice_get r.forms k) refl
    where
      flat : IsFlat r w k
      flat = so_in (IsFlat r w) (candidates_of r) (candidates_so (IsFlat r w) (λ k i q row. row.flat refl)) k
          (chosen_in r k over)

      by : (o : Option Form) → slice_get r.forms k ≡ o → get_or (choice_in (overlapped r) k).in_place i false ≡ false
      by (Some f) e = ap (λ (fs : List Bool). get_or fs i false) (flags_of_form k f e) ∙ flat f e i
      by None e = ap (λ (fs : List Bool). get_or fs i false)
          (flags_as r k ∙ ap (λ (c : Choice). c.in_place) (no_choice_is r w k e))

  are_chosen : (k : ℕ) (f : Form) → slice_get r.forms k ≡ Some f → IsChosenFor f (choice_in (overlapped r) k)
  are_chosen k f e =
      let h = (choices_are_hoisted r w).each k f e in
      let flags = flags_as r k in record {
        flags = ap length flags ∙ h.flags;
        in_place = λ i g. h.in_place i (sym (ap (λ (fs : List Bool). get_or fs i false) flags) ∙ g);
        moved = λ i g. ap (λ (fs : List Bool). get_or fs i false) flags
            ∙ h.moved i (subst (λ n. 0 < n) (left_as r k i) g);
      }

  pub overlaps_may_be_chosen : MayBeChosen r (overlapped r)
  overlaps_may_be_chosen = record {
    each = are_chosen;
    entry = entry_stays r w (overlapped r) (left_as r);
    first = entry_isnt;
    loops = loops_may_be_left r w (overlapped r) (left_as r);
    calls = λ k. subst (λ (x : FormBody). BodyOverlaps (homes r) x.body)
        (sym (bodies_are_tables as_many_forms r k)) (form_good k).calls;
    stand = record {
      each = λ k. subst (λ (x : FormBody). LoopsStand (homes r) (call_loops_of x.body))
          (sym (bodies_are_tables as_many_forms r k)) ((pipes_fit_stand (bodies r w) (homes r) overlaps_fit).each k);
    };
    doubled = none_in_place;
  }
