-- The notes of the choices of a program's forms.
use Rattle.std.proofs.Common.{◌≡◌, ℕ, zero, suc, ◌+◌, Bool, true, false, List, [], ◌∷◌, ◌++◌}
use Rattle.std.proofs.Common.{map, get_or, slice_get, Some, None, refl, sym, ap, ap₂, subst, ◌∙◌, arith}
use Rattle.sq_spec.specs.declared.statement.CallInstance.{CallInstance}
use Rattle.sq_spec.specs.declared.statement.Statement.{Statement}
use Rattle.sq_spec.specs.declared.body.Body.{Body}
use Rattle.sq_spec.specs.declared.body.Body.TheVariants as body
use Rattle.sq_spec.specs.declared.body.FormBody.{FormBody}
use Rattle.sq_spec.specs.declared.resolved.Resolved.{Resolved}
use Rattle.sq_spec_laws.specs.TableRows.{Table, tables_in}
use Rattle.sq_draft_laws.specs.TermLaws.Orders.{EachOf}
use Rattle.sq_draft_laws.specs.Choosing.{Walked}
use Rattle.sq_draft_laws.proofs.ProgramLaws.Loops.{each_from, each_map}
use Rattle.sq_draft_laws.specs.Homes.Chosen.declared.choice.Choice.{Choice}
use Rattle.sq_draft_laws.specs.Homes.Chosen.Forms.{bodies_of, choice_in}
use Rattle.sq_pipe.specs.Hoist.declared.sites.Site.{Site}
use Rattle.sq_pipe.specs.Hoist.Choices.{body_sites, sites_from, hoisted}
use Rattle.sq_pipe.specs.Hoist.Notes as hoist
use Rattle.sq_draft_laws.specs.Homes.Chosen.Arrays.{left_by}
use Rattle.sq_pipe.specs.Candidates.{all_loops, seen}
use Rattle.sq_pass_laws.proofs.Candidates.{IsIn}
use Rattle.sq_pass_laws.proofs.Tables.{number_of}
use Rattle.sq_pass_laws.proofs.HoistPrograms.{look, choice_is, hoisted_overlap_nothing, list_numbered}
use Rattle.sq_choice_laws.specs.Noted.{Noted, all_notes, notes_in, body_notes, notes_from, HoistNotesAreChoices}
use Rattle.sq_choice_laws.proofs.Reached.{HasReached}
use Rattle.sq_choice_laws.proofs.Hoists.{FormFacts, form_facts, entry_leaves}
use Rattle.sq_choice_laws.proofs.Noting.{its}
use Rattle.sq_choice_laws.proofs.Certs.{Over, IsChosen, list_certs}
use Rattle.sq_choice_laws.proofs.NotedHoists.{hoist_both, hoist_list}

no_flag : (f : ℕ) → ◌≡◌ {A = Bool} (get_or [] f false) false
no_flag zero = refl
no_flag (suc f) = refl

pub in_list : (r : Resolved) (choices : List Choice) (k : ℕ) (xs : List Statement)
    → map (notes_in r choices k) xs ≡ map (λ (p : Noted). p.notes) (map (its r choices k) xs)
in_list r choices k [] = refl
in_list r choices k (x ∷ xs) = ap (λ l. notes_in r choices k x ∷ l) (in_list r choices k xs)

module _ (r : Resolved) (w : Walked r) where
  abbrev none_left : ℕ → List ℕ
  none_left f = []

  none_over : (f : ℕ) → (choice_in (hoisted r) f).overlaps ≡ false
  none_over f = hoisted_overlap_nothing r f

  not_over : (f : ℕ) → (choice_in (hoisted r) f).overlaps ≡ true → ⊥
  not_over f e = absurd (let z = none_over f in cc (sym z ∙ e))

  row_chosen : (k : ℕ) (q : CallInstance) → HasReached r q
      → IsChosen (hoisted r) [] none_left 0 k (number_of r w) (look r w) (not_over 0) q
  row_chosen k q h = record {
    leaves = ap (λ (c : Choice). c.leaves) (choice_is r w q.form h.form h.there);
    agree = none_over q.form ∙ sym (no_flag q.form);
  }

  list_hoists : (k : ℕ) (list : List Statement) → FormFacts r w k list
      → body_notes r (hoisted r) k (body.Inner list) ≡ hoist.all_notes r (body_sites k (body.Inner list))
  list_hoists k list f =
      ap (all_notes r (hoisted r) k) (in_list r (hoisted r) k list)
      ∙ hoist_list r (hoisted r) [] none_left 0 k entry_leaves_here none_over
      (list_certs (hoisted r) [] none_left 0 k (number_of r w) (look r w) (not_over 0) list false None 0
      (list_numbered r w k list f.tables)
      (each_map (λ (t : Table). EachOf (HasReached r) t.times)
      (λ (t : Table). EachOf (IsChosen (hoisted r) [] none_left 0 k (number_of r w) (look r w) (not_over 0)) t.times)
      (tables_in list None)
      (λ t h. each_map (HasReached r) (IsChosen (hoisted r) [] none_left 0 k (number_of r w) (look r w) (not_over 0))
      t.times (row_chosen k) h) f.reached)
      f.local
      (each_from (λ (t : Table). EachOf (λ (q : CallInstance). Over (hoisted r) [] none_left 0 k q.form
      → IsIn q.form (all_loops (map (seen none_left 0 k) list) false)) t.times) (tables_in list None)
      (λ i t g. each_from (λ (q : CallInstance). Over (hoisted r) [] none_left 0 k q.form
      → IsIn q.form (all_loops (map (seen none_left 0 k) list) false)) t.times
      (λ j q d over. absurd (not_over q.form over)))))
    where
      entry_leaves_here : (i : ℕ) → left_by (choice_in (hoisted r) 0) i ≡ 0
      entry_leaves_here = entry_leaves r w

  body_hoists : (k : ℕ) (b : FormBody) → slice_get (bodies_of r) k ≡ Some b → (x : Body) → b.body ≡ x
      → body_notes r (hoisted r) k x ≡ hoist.all_notes r (body_sites k x)
  body_hoists k b there (body.Leaf code) is = refl
  body_hoists k b there (body.Inner list) is = list_hoists k list (form_facts r w k b list there is)

  forms_hoists : (at : ℕ) (bs : List FormBody)
      → ((j : ℕ) (b : FormBody) → slice_get bs j ≡ Some b → slice_get (bodies_of r) (at + j) ≡ Some b)
      → notes_from r (hoisted r) at bs ≡ hoist.all_notes r (sites_from at bs)
  forms_hoists at [] h = refl
  forms_hoists at (b ∷ bs) h =
      let z : at + 0 ≡ at = omega arith in
      let y : at + 1 ≡ suc at = omega arith in
      ap₂ (λ l m. l ++ m)
      (body_hoists at b (subst (λ k. slice_get (bodies_of r) k ≡ Some b) z (h 0 b refl)) b.body refl)
      (ap (λ k. notes_from r (hoisted r) k bs) y
      ∙ forms_hoists (suc at) bs (λ j c e.
      let x : at + suc j ≡ suc at + j = omega arith in
      subst (λ k. slice_get (bodies_of r) k ≡ Some c) x (h (suc j) c e)))
      ∙ sym (hoist_both_here (body_sites at b.body) (sites_from (suc at) bs))
    where
      hoist_both_here : (ss us : List Site)
          → hoist.all_notes r (ss ++ us) ≡ hoist.all_notes r ss ++ hoist.all_notes r us
      hoist_both_here = hoist_both r (hoisted r) [] none_left 0 0 (entry_leaves r w)

pub hoist_notes_are_choices : HoistNotesAreChoices
hoist_notes_are_choices r w = sym (forms_hoists r w 0 (bodies_of r) (λ j b e.
    let z : j ≡ 0 + j = omega arith in subst (λ k. slice_get (bodies_of r) k ≡ Some b) z e))
