-- What is placed under a draft's homes means what the program does.
use Rattle.std.proofs.Common.{◌≡◌, ℕ, zero, suc, ◌+◌, ◌<◌, ◌≤◌, ◌⊎◌, inl, inr, false, List, [], ◌∷◌, length, map}
use Rattle.std.proofs.Common.{slice_get, get_or, Option, Some, None, refl, sym, ap, ap₂, subst, ◌∙◌, arith}
use Rattle.std.proofs.lemmas.Bool.{cases_lt}
use Rattle.std.proofs.lemmas.List.FromFn.{length-range_with_len}
use Rattle.std.proofs.lemmas.Option.{slice_get_past}
use Rattle.std.proofs.Math.Logic.{∥∥₁_elim}
use Rattle.std.proofs.Math.Path.{fun_ext}
use Rattle.std.specs.List.{range_with_len}
use Rattle.std.specs.Coded.{coded_ℕ}
use base.Stored.{Coded-set}
use Rattle.sq_ast.specs.declared.program.Param.{Param}
use Rattle.sq_forms.specs.declared.form.Form.{Form}
use Rattle.sq_forms.specs.Resolving.{entry_params}
use Rattle.sq_form_laws.specs.Reached.{AsManyForms}
use Rattle.sq_spec.specs.declared.body.FormBody.{FormBody}
use Rattle.sq_spec.specs.declared.resolved.Resolved.{Resolved}
use Rattle.sq_spec.specs.Bodies.{no_body, body_of, found_body, numbered_work}
use Rattle.sq_spec.specs.Entry.{IsEntry, EntryIsFirst}
use Rattle.sq_spec.specs.Numbered.{called_entry, entry_call}
use Rattle.sq_spec.specs.Works.{entry_arguments}
use Rattle.sq_spec.specs.Work.Work as work
use Rattle.sq_term.specs.Terms.{body_in}
use Rattle.sq_placed.specs.Placed.{plain}
use Rattle.sq_placed.specs.Tables.{entry_placed}
use Rattle.sq_placed.specs.SameWorks.{IsSameWork}
use Rattle.sq_placed.specs.Laws.{PlacedIsWork}
use Rattle.sq_homes.specs.Chosen.Forms.{bodies_of}
use Rattle.sq_homes.specs.Drafts.{args_of, extents_by, term_with}
use Rattle.sq_draft_laws.specs.Programs.{BodiesAreTables, PlacedIsProgram, TermIsEntrys}
use Rattle.sq_draft_laws.proofs.Standing.{map_length}

inside : {A : Type 0} (f : ℕ → A) (d : A) (a n k : ℕ) → k < n → get_or (map f (range_with_len a n)) k d ≡ f (a + k)
inside f d a zero k h = absurd (omega (arith, h))
inside f d a (suc n) zero h = ap f (omega arith)
inside f d a (suc n) (suc k) h = let next : a + 1 + k ≡ a + suc k
    = omega arith in inside f d (a + 1) n k (omega (arith, h)) ∙ ap f next

outside : {A : Type 0} (f : ℕ → A) (d : A) (a n k : ℕ) → n ≤ k → get_or (map f (range_with_len a n)) k d ≡ d
outside f d a zero k h = refl
outside f d a (suc n) zero h = absurd (omega (arith, h))
outside f d a (suc n) (suc k) h = outside f d (a + 1) n k (omega (arith, h))

as_many : (r : Resolved) → AsManyForms → length r.found.entries ≡ length r.forms
as_many r law = ∥∥₁_elim r.walked (Coded-set coded_ℕ _ _) (λ w. law r.typed.now.tasks r.mapping.now _ w.through)

abbrev of_program : Resolved → ℕ → FormBody
of_program r = body_of r.typed.now.tasks r.mapping.now.instances r.found.entries

pub bodies_are_tables : AsManyForms → BodiesAreTables
bodies_are_tables law r k = by (cases_lt k (length r.forms))
  where
    by : (k < length r.forms) ⊎ (length r.forms ≤ k) → body_in (bodies_of r) k ≡ of_program r k
    by (inl less) = let e : 0 + k ≡ k = omega arith in inside (of_program r) no_body 0 (length r.forms) k less
        ∙ ap (of_program r) e
    by (inr least) =
        let many = as_many r law in
        outside (of_program r) no_body 0 (length r.forms) k least
        ∙ sym (ap (found_body r.found.entries r.typed.now.tasks r.mapping.now.instances k)
        (slice_get_past r.found.entries k (omega (arith, least, many))))

count : (r : Resolved) → AsManyForms → length (bodies_of r) ≡ length r.found.entries
count r law = map_length (of_program r) (range_with_len 0 (length r.forms)) ∙ length-range_with_len 0 (length r.forms)
    ∙ sym (as_many r law)

-- the extents of the first form
extents_are : (r : Resolved) → AsManyForms → (e : IsEntry r) → (o : Option Form) → slice_get r.forms 0 ≡ o
    → extents_by o ≡ e.extents
extents_are r law e (Some f) h = e.form f h
extents_are r law e None h = absurd (some_form r.found.entries r.forms (as_many r law) e.found h)
  where
    some_form : {A B : Type 0} {x : A} (xs : List A) (ys : List B) → length xs ≡ length ys → slice_get xs 0 ≡ Some x
        → slice_get ys 0 ≡ None → ⊥
    some_form [] ys many there none = absurd (cc there)
    some_form (x ∷ xs) [] many there none = absurd (omega (arith, many))
    some_form (x ∷ xs) (y ∷ ys) many there none = absurd (cc none)

pub placed_is_program : PlacedIsWork → AsManyForms → EntryIsFirst → PlacedIsProgram
placed_is_program law many first r homes stand =
    subst (IsSameWork (plain (entry_placed (body_in (bodies_of r)) homes (length (bodies_of r)) (args_of r)))) program
    (law (body_in (bodies_of r)) homes stand (length (bodies_of r)) (args_of r))
  where
    e : IsEntry r
    e = first r

    params : List Param
    params = entry_params r.typed.now.tasks (slice_get r.mapping.now.instances r.mapping.now.entry)

    program : work.Call 0 false (args_of r) (numbered_work (body_in (bodies_of r)) (length (bodies_of r)) 0)
        ≡ entry_call r.typed.now.tasks r.mapping.now r.found.entries
    program =
        ap (λ (list : List (List ℕ)). work.Call 0 false (entry_arguments params 0 list)
        (numbered_work (body_in (bodies_of r)) (length (bodies_of r)) 0))
        (extents_are r many e (slice_get r.forms 0) refl)
        ∙ ap₂ (λ (bodies : ℕ → FormBody) (n : ℕ). work.Call 0 false (entry_arguments params 0 e.extents)
        (numbered_work bodies n 0))
        (fun_ext (bodies_are_tables many r)) (count r many)
        ∙ sym (ap (called_entry r.typed.now.tasks r.mapping.now r.found.entries) e.found)

pub term_is_entrys : TermIsEntrys
unfolding term_with
term_is_entrys bodies homes args = refl
