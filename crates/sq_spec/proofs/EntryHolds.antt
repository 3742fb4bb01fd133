-- The entry is the first form.
use Rattle.std.proofs.Common.{◌≡◌, ℕ, List, [], Some, Ok, Err, refl, sym, ◌∙◌, ap, arith}
use Rattle.std.proofs.Math.Logic.{∥∥₁_elim}
use Rattle.std.specs.Prelude.{slice_get}
use Rattle.std.specs.Coded.{Coded-set, coded_result, coded_option, coded_list, coded×, coded_ℕ}
use Rattle.sq_text.specs.contracts.fault.Fault as fault
use Rattle.sq_ast.specs.declared.program.Variant.{Variant}
use Rattle.sq_form_laws.specs.Mappings.declared.mapping.Mapping.{Mapping}
use Rattle.sq_form_laws.specs.Forms.contracts.form.Found as found
use Rattle.sq_form_laws.specs.Forms.declared.form.Form.{Form}
use Rattle.sq_spec.specs.declared.resolved.Resolved.{Resolved}
use Rattle.sq_form_laws.specs.Forms.Faults.{Value, value_or, and_then}
use Rattle.sq_form_laws.specs.Forms.Steps.{most_forms}
use Rattle.sq_form_laws.specs.Forms.Resolving.{Resolving, resolution, walk_from, with_entry, entry_params, entry_extents, entry_form, with_locals}
use Rattle.sq_spec.specs.Walked.{IsWalked}
use Rattle.sq_spec.specs.Entry.{EntryIsFirst}
use Rattle.sq_form_laws.proofs.Forms.AllForms.{forms_limit}
use Rattle.sq_form_laws.proofs.FormsHold.{each_walked, went}

-- the first form of a walk that went through
record First (variants : List Variant) (mapping : Mapping) (r : Resolving) : Type 0 where
  extents : List (List ℕ)
  fit : entry_extents mapping.sizes (entry_params variants (slice_get mapping.instances mapping.entry)) ≡ Ok extents
  found : slice_get r.found 0 ≡ Some ([], entry_form mapping.entry extents)

first_from : (variants : List Variant) (mapping : Mapping) (r : Resolving) (v : Value (List (List ℕ)))
    → entry_extents mapping.sizes (entry_params variants (slice_get mapping.instances mapping.entry)) ≡ v
    → and_then v (λ extents. walk_from variants mapping.instances most_forms 0 (with_entry mapping.entry extents)) ≡ Ok r → First variants mapping r
first_from variants mapping r (Err x) e h = absurd (cc h)
first_from variants mapping r (Ok extents) e h =
    let w = went variants mapping.instances most_forms 0 (with_entry mapping.entry extents) r refl refl h in
    record { extents = extents; fit = e; found = ap (λ l. slice_get l 0) w.found.same }

first_of : (variants : List Variant) (mapping : Mapping) (r : Resolving) → resolution variants mapping ≡ Ok r → First variants mapping r
first_of variants mapping r h = first_from variants mapping r (entry_extents mapping.sizes (entry_params variants (slice_get mapping.instances mapping.entry))) refl h

some_same : {A : Type 0} (x y : A) → Some x ≡ Some y → x ≡ y
some_same x y h = cc h

abbrev extents_of : Value (List (List ℕ)) → List (List ℕ)
extents_of v = value_or [] v

fit_of : (v : Value (List (List ℕ))) (extents : List (List ℕ)) → v ≡ Ok extents → v ≡ Ok (extents_of v)
fit_of v extents h = h ∙ ap (λ es. Ok es) (sym (ap extents_of h))

module _ (r : Resolved) where
  abbrev extents : List (List ℕ)
  extents = extents_of (entry_extents r.mapping.now.sizes (entry_params r.typed.now.tasks (slice_get r.mapping.now.instances r.mapping.now.entry)))

  first : (w : IsWalked r.typed.now r.machine.now.levels r.mapping.now r.found.entries r.forms r.uses)
      → First r.typed.now.tasks r.mapping.now (record { found = r.found.entries; forms = r.forms; uses = r.uses })
  first w = first_of r.typed.now.tasks r.mapping.now (record { found = r.found.entries; forms = r.forms; uses = r.uses }) w.through

  same : (w : IsWalked r.typed.now r.machine.now.levels r.mapping.now r.found.entries r.forms r.uses) → (first w).extents ≡ extents
  same w = sym (ap extents_of (first w).fit)

  found_first : (w : IsWalked r.typed.now r.machine.now.levels r.mapping.now r.found.entries r.forms r.uses)
      → slice_get r.found.entries 0 ≡ Some ([], entry_form r.mapping.now.entry extents)
  found_first w = (first w).found ∙ ap (λ es. Some ([], entry_form r.mapping.now.entry es)) (same w)

  form_first : (w : IsWalked r.typed.now r.machine.now.levels r.mapping.now r.found.entries r.forms r.uses)
      → (f : Form) → slice_get r.forms 0 ≡ Some f → f.extents ≡ extents
  form_first w f there =
      let entry = entry_form r.mapping.now.entry extents in
      let was = each_walked r.typed.now.tasks r.mapping.now (record { found = r.found.entries; forms = r.forms; uses = r.uses }) w.through 0 ([], entry)
      (omega (arith, forms_limit)) (found_first w) in
      ap (λ (g : Form). g.extents) (some_same f (with_locals entry was.done.locals) (sym there ∙ was.kept))

pub entry_is_first : EntryIsFirst
entry_is_first r = record {
  extents = extents r;
  fit = ∥∥₁_elim r.walked (Coded-set (coded_result (coded_list (coded_list coded_ℕ)) fault.the_row.coded) _ _) (λ w. fit_of _ (first r w).extents (first r w).fit);
  found = ∥∥₁_elim r.walked (Coded-set (coded_option (coded× (coded_list coded_ℕ) found.the_row.coded)) _ _) (λ w. found_first r w);
  form = λ f there. ∥∥₁_elim r.walked (Coded-set (coded_list (coded_list coded_ℕ)) _ _) (λ w. form_first r w f there);
}
