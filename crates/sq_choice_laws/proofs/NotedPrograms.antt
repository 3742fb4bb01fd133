-- The notes of a program whose loops overlap are those of its choices, in the order of the text.
use Rattle.std.proofs.Common.{◌≡◌, ◌==◌, ℕ, zero, suc, ◌+◌, ◌<◌, ◌≤◌, Bool, true, false, ◌&&◌, ◌||◌, nat_lt, List, []}
use Rattle.std.proofs.Common.{◌∷◌, ◌++◌, map, get_or, slice_get, Some, None, refl, sym, ap, ap₂, subst}
use Rattle.std.proofs.Common.{◌∙◌, arith}
use Rattle.std.proofs.lemmas.Bool.Decides.{nat_tests}
use Rattle.sq_text.specs.declared.place.Place.{Place}
use Rattle.sq_text.specs.Places.{is_before}
use Rattle.sq_forms.specs.declared.form.Form.{Form}
use Rattle.sq_spec.specs.declared.statement.CallInstance.{CallInstance}
use Rattle.sq_spec.specs.declared.statement.Statement.{Statement}
use Rattle.sq_spec.specs.declared.body.Body.{Body}
use Rattle.sq_spec.specs.declared.body.Body.TheVariants as body
use Rattle.sq_spec.specs.declared.body.FormBody.{FormBody}
use Rattle.sq_spec.specs.declared.resolved.Resolved.{Resolved}
use Rattle.sq_spec_laws.specs.TableRows.{Table, tables_in}
use Rattle.sq_draft_laws.specs.TermLaws.Orders.{EachOf}
use Rattle.sq_draft_laws.specs.Choosing.{Walked}
use Rattle.sq_draft_laws.proofs.ProgramLaws.Loops.{each_at, each_both, each_from, each_map}
use Rattle.sq_draft_laws.specs.Homes.Chosen.declared.choice.Choice.{Choice}
use Rattle.sq_draft_laws.specs.Homes.Chosen.Arrays.{left_by}
use Rattle.sq_draft_laws.specs.Homes.Chosen.Forms.{bodies_of, choice_in, no_choice}
use Rattle.sq_pipe.specs.Hoist.declared.sites.Site.{Site}
use Rattle.sq_pipe.specs.Hoist.Choices.{sites_of, body_sites, sites_from, find_leaves, choices_from}
use Rattle.sq_pipe.specs.declared.candidate.Candidate.{Candidate}
use Rattle.sq_pipe.specs.Runs.{marks_of}
use Rattle.sq_pipe.specs.Candidates.{all_loops, seen}
use Rattle.sq_pipe.specs.Greedy.{body_candidates, candidates_from, candidates_of, taken_of, overlaps_from, overlapped}
use Rattle.sq_pipe.specs.Notes.{merged}
use Rattle.sq_pass_laws.proofs.Sites.{Leaves}
use Rattle.sq_pass_laws.proofs.Candidates.{IsIn}
use Rattle.sq_pass_laws.proofs.Choices.{leaves_as, left_as, chosen_in}
use Rattle.sq_pass_laws.proofs.Tables.{caller_of, number_of}
use Rattle.sq_pass_laws.proofs.HoistPrograms.{look, choice_is, list_numbered, all_own}
use Rattle.sq_pass_laws.proofs.PipePrograms.{leaves, children, overlaps_may_be_chosen}
use Rattle.sq_choice_laws.specs.Noted.{all_notes, body_notes, notes_from, all_places, places_in, body_places}
use Rattle.sq_choice_laws.specs.Noted.{AreRising, NotesAreChoices}
use Rattle.sq_choice_laws.proofs.Reached.{HasReached}
use Rattle.sq_choice_laws.proofs.Hoists.{FormFacts, form_facts, entry_leaves}
use Rattle.sq_choice_laws.proofs.Merges.{key, IsAhead, IsBehind, merged_both}
use Rattle.sq_choice_laws.proofs.Certs.{IsChosen, list_certs}
use Rattle.sq_choice_laws.proofs.NotedForms.{in_list}
use Rattle.sq_choice_laws.proofs.PlacesOf.{Stands, all_placed, SiteStands, all_site}
use Rattle.sq_choice_laws.proofs.NotedAll.{list_merged}
use Rattle.sq_choice_laws.proofs.AmongForms.{form_among}

-- ---- forms before and behind

before_form : (m n : ℕ) (t : Bool) → m < n → (nat_lt m n || (m == n && t)) ≡ true
before_form m n true lt = grind (arith, nat_tests)
before_form m n false lt = grind (arith, nat_tests)

behind_form : (m n : ℕ) (t : Bool) → n < m → (nat_lt m n || (m == n && t)) ≡ false
behind_form m n true lt = grind (arith, nat_tests)
behind_form m n false lt = grind (arith, nat_tests)

each_place : (ps : List Place) → EachOf (λ (p : Place). Unit {0}) ps
each_place [] = tt
each_place (p ∷ ps) = (tt, each_place ps)

-- ---- what is taken is chosen

taken_is : (taken : List Bool) (look : ℕ → Leaves) (k m : ℕ) (fs : List Form) (j : ℕ) (f : Form)
    → slice_get fs j ≡ Some f
    → (get_or (overlaps_from taken k (choices_from look m fs)) j no_choice).overlaps ≡ get_or taken (k + j) false
taken_is taken look k m [] j f e = absurd (cc e)
taken_is taken look k m (g ∷ fs) zero f e =
    let z : k ≡ k + 0 = omega arith in ap (λ n. get_or taken n false) z
taken_is taken look k m (g ∷ fs) (suc j) f e =
    let z : k + 1 + j ≡ k + suc j = omega arith in
    taken_is taken look (k + 1) (suc m) fs j f e ∙ ap (λ n. get_or taken n false) z

module _ (r : Resolved) (w : Walked r) where
  abbrev lefts : ℕ → List ℕ
  lefts = leaves r (marks_of r)

  abbrev many : ℕ → ℕ
  many = children r (marks_of r)

  not_first : (choice_in (overlapped r) 0).overlaps ≡ true → ⊥
  not_first e = absurd (let z = (overlaps_may_be_chosen r w).first in cc (sym z ∙ e))

  entry_left : (i : ℕ) → left_by (choice_in (overlapped r) 0) i ≡ 0
  entry_left i = left_as r 0 i ∙ entry_leaves r w i

  row_chosen : (k : ℕ) (q : CallInstance) → HasReached r q
      → IsChosen (overlapped r) (taken_of r) lefts (many k) k (number_of r w) (look r w) not_first q
  row_chosen k q h = record {
    leaves = leaves_as r q.form ∙ ap (λ (c : Choice). c.leaves) (choice_is r w q.form h.form h.there);
    agree =
        let z : 0 + q.form ≡ q.form = omega arith in
        taken_is (taken_of r) (find_leaves (sites_of r)) 0 0 r.forms q.form h.form h.there
        ∙ ap (λ n. get_or (taken_of r) n false) z;
  }

  abbrev over : ℕ → Type 0
  over f = (choice_in (overlapped r) f).overlaps ≡ true

  list_all_merged : (k : ℕ) (b : FormBody) (list : List Statement) → slice_get (bodies_of r) k ≡ Some b
      → b.body ≡ body.Inner list → FormFacts r w k list → AreRising (body_places (body.Inner list))
      → merged r (taken_of r) (body_sites k (body.Inner list)) (body_candidates r (many k) k (body.Inner list))
      ≡ body_notes r (overlapped r) k (body.Inner list)
  list_all_merged k b list there is f rising =
      list_merged r (overlapped r) (taken_of r) lefts (many k) k entry_left
      (list_certs (overlapped r) (taken_of r) lefts (many k) k (number_of r w) (look r w) not_first list false None 0
      (list_numbered r w k list f.tables)
      (each_map (λ (t : Table). EachOf (HasReached r) t.times)
      (λ (t : Table). EachOf (IsChosen (overlapped r) (taken_of r) lefts (many k) k (number_of r w) (look r w) not_first)
      t.times) (tables_in list None)
      (λ t h. each_map (HasReached r)
      (IsChosen (overlapped r) (taken_of r) lefts (many k) k (number_of r w) (look r w) not_first)
      t.times (row_chosen k) h) f.reached)
      f.local among) rising
      ∙ sym (ap (all_notes r (overlapped r) k) (in_list r (overlapped r) k list))
    where
      IsAll : CallInstance → Type 0
      IsAll q = (choice_in (overlapped r) q.form).overlaps ≡ true → IsIn q.form (candidates_of r)

      among : EachOf (λ (t : Table). EachOf (λ (q : CallInstance). (choice_in (overlapped r) q.form).overlaps ≡ true
          → IsIn q.form (all_loops (map (seen (leaves r (marks_of r)) (children r (marks_of r) k) k) list) false)) t.times)
          (tables_in list None)
      among =
          let z : 0 + k ≡ k = omega arith in
          subst (λ n. EachOf (λ (t : Table). EachOf (λ (q : CallInstance).
          (choice_in (overlapped r) q.form).overlaps ≡ true
          → IsIn q.form (all_loops (map (seen (leaves r (marks_of r)) (children r (marks_of r) n) n) list) false)) t.times)
          (tables_in list None)) z
          (form_among r (marks_of r) (caller_of r w) (λ f. (choice_in (overlapped r) f).overlaps ≡ true) 0 (bodies_of r)
          (all_own r w) k b list there is
          (each_from (λ (t : Table). EachOf (λ (q : CallInstance). (choice_in (overlapped r) q.form).overlaps ≡ true
          → IsIn q.form (candidates_of r)) t.times) (tables_in list None)
          (λ i t g. each_from (λ (q : CallInstance). (choice_in (overlapped r) q.form).overlaps ≡ true
          → IsIn q.form (candidates_of r)) t.times
          (λ j q d o. chosen_in r q.form o))))

  body_merged : (k : ℕ) (b : FormBody) → slice_get (bodies_of r) k ≡ Some b → (x : Body) → b.body ≡ x
      → AreRising (body_places x)
      → merged r (taken_of r) (body_sites k x) (body_candidates r (many k) k x) ≡ body_notes r (overlapped r) k x
  body_merged k b there (body.Leaf code) is rising = refl
  body_merged k b there (body.Inner list) is rising =
      list_all_merged k b list there is (form_facts r w k b list there is) rising

  -- ---- callers

  abbrev Own : ℕ → Site → Type 0
  Own k s = s.caller ≡ k

  abbrev Mine : ℕ → Candidate → Type 0
  Mine k c = c.caller ≡ k

  body_own : (k : ℕ) (b : Body) → EachOf (Own k) (body_sites k b)
  body_own k (body.Leaf code) = tt
  body_own k (body.Inner list) =
      each_map (SiteStands (λ (p : Place). Unit {0}) k) (Own k) (body_sites k (body.Inner list)) (λ s h. h.by)
      (all_site (λ (p : Place). Unit {0}) k list (each_place (all_places (map places_in list))))

  body_mine : (k n : ℕ) (b : Body) → EachOf (Mine k) (body_candidates r n k b)
  body_mine k n (body.Leaf code) = tt
  body_mine k n (body.Inner list) =
      each_map (Stands (λ (p : Place). Unit {0}) k) (Mine k) (body_candidates r n k (body.Inner list)) (λ c h. h.by)
      (all_placed (λ (p : Place). Unit {0}) k lefts n list (each_place (all_places (map places_in list))) false)

  later_own : (at : ℕ) (bs : List FormBody) → EachOf (λ (s : Site). at ≤ s.caller) (sites_from at bs)
  later_own at [] = tt
  later_own at (b ∷ bs) =
      each_both (λ (s : Site). at ≤ s.caller) (body_sites at b.body) (sites_from (suc at) bs)
      (each_map (Own at) (λ (s : Site). at ≤ s.caller) (body_sites at b.body) (λ s e. omega (arith, e))
      (body_own at b.body))
      (each_map (λ (s : Site). suc at ≤ s.caller) (λ (s : Site). at ≤ s.caller) (sites_from (suc at) bs)
      (λ s l. omega (arith, l)) (later_own (suc at) bs))

  later_mine : (at : ℕ) (bs : List FormBody)
      → EachOf (λ (c : Candidate). at ≤ c.caller) (candidates_from r at bs (marks_of r))
  later_mine at [] = tt
  later_mine at (b ∷ bs) =
      each_both (λ (c : Candidate). at ≤ c.caller) (body_candidates r (many at) at b.body)
      (candidates_from r (at + 1) bs (marks_of r))
      (each_map (Mine at) (λ (c : Candidate). at ≤ c.caller) (body_candidates r (many at) at b.body)
      (λ c e. omega (arith, e)) (body_mine at (many at) b.body))
      (each_map (λ (c : Candidate). at + 1 ≤ c.caller) (λ (c : Candidate). at ≤ c.caller)
      (candidates_from r (at + 1) bs (marks_of r)) (λ c l. omega (arith, l)) (later_mine (at + 1) bs))

  forms_merged : (at : ℕ) (bs : List FormBody)
      → ((j : ℕ) (b : FormBody) → slice_get bs j ≡ Some b → slice_get (bodies_of r) (at + j) ≡ Some b)
      → EachOf (λ (b : FormBody). AreRising (body_places b.body)) bs
      → merged r (taken_of r) (sites_from at bs) (candidates_from r at bs (marks_of r))
      ≡ notes_from r (overlapped r) at bs
  forms_merged at [] h rising = refl
  forms_merged at (b ∷ bs) h rising =
      let z : at + 0 ≡ at = omega arith in
      let y : at + 1 ≡ suc at = omega arith in
      let ss = body_sites at b.body in
      let us = sites_from (suc at) bs in
      let cs = body_candidates r (many at) at b.body in
      let ds = candidates_from r (at + 1) bs (marks_of r) in
      merged_both r (taken_of r) ss us cs ds
      (each_from (λ s. EachOf (IsAhead s) cs) us (λ i s e. each_from (IsAhead s) cs (λ j c d.
      let g = each_at (λ (s : Site). suc at ≤ s.caller) us i s (later_own (suc at) bs) e in
      let f = each_at (Mine at) cs j c (body_mine at (many at) b.body) d in
      before_form c.caller s.caller (is_before c.place (key s)) (omega (arith, g, f)))))
      (each_from (λ s. EachOf (IsBehind s) ds) ss (λ i s e. each_from (IsBehind s) ds (λ j c d.
      let g = each_at (Own at) ss i s (body_own at b.body) e in
      let f = each_at (λ (c : Candidate). at + 1 ≤ c.caller) ds j c (later_mine (at + 1) bs) d in
      behind_form c.caller s.caller (is_before c.place (key s)) (omega (arith, g, f)))))
      ∙ ap₂ (λ l m. l ++ m)
      (body_merged at b (subst (λ k. slice_get (bodies_of r) k ≡ Some b) z (h 0 b refl)) b.body refl rising.0)
      (ap (λ k. merged r (taken_of r) us (candidates_from r k bs (marks_of r))) y
      ∙ forms_merged (suc at) bs (λ j c e.
      let x : at + suc j ≡ suc at + j = omega arith in
      subst (λ k. slice_get (bodies_of r) k ≡ Some c) x (h (suc j) c e)) rising.1
      ∙ ap (λ k. notes_from r (overlapped r) k bs) (sym y))

pub notes_are_choices : NotesAreChoices
notes_are_choices r w rising = forms_merged r w 0 (bodies_of r) (λ j b e.
    let z : j ≡ 0 + j = omega arith in subst (λ k. slice_get (bodies_of r) k ≡ Some b) z e) rising
