-- The forms of the answer are those that were found, with their locals.
use Rattle.std.proofs.Common.{◌≡◌, ℕ, zero, suc, ◌<◌, List, [], ◌∷◌, length, Some, refl, sym, ◌∙◌, ap, arith}
use Rattle.std.specs.Prelude.{slice_get}
use Rattle.sq_forms.specs.declared.form.Form.{Form}
use Rattle.sq_forms.specs.Resolving.{with_locals}
use Rattle.sq_form_laws.specs.Reached.{FormsAreFound, FormsCallersFirst}
use Rattle.sq_form_laws.proofs.AllHold.{within_list}
use Rattle.sq_form_laws.proofs.FormsHold.{each_walked}
use Rattle.sq_form_laws.proofs.RanHold.{as_many_forms, few_found}
use Rattle.sq_form_laws.proofs.TreeHolds.{callers_first}

some_same : {A : Type 0} (x y : A) → Some x ≡ Some y → x ≡ y
some_same x y h = cc h

at_index : {A : Type 0} (xs : List A) (k : ℕ) → k < length xs → (x : A) × (slice_get xs k ≡ Some x)
at_index [] k h = absurd (omega (arith, h))
at_index (x ∷ xs) zero h = (x, refl)
at_index (x ∷ xs) (suc k) h = at_index xs k (omega (arith, h))

pub forms_are_found : FormsAreFound
forms_are_found variants mapping r h k f there =
    let less = within_list r.forms k f there in
    let same_length = as_many_forms variants mapping r h in
    let e = at_index r.found k (omega (arith, less, same_length)) in
    let w = each_walked variants mapping r h k e.0 (omega (arith, less, same_length, few_found variants mapping r h)) e.1 in
    record { found = e.0; there = e.1; locals = w.done.locals; is = some_same f (with_locals e.0.1 w.done.locals) (sym there ∙ w.kept) }

pub forms_callers_first : FormsCallersFirst
forms_callers_first variants mapping r h i f c there called =
    let e = forms_are_found variants mapping r h i f there in
    callers_first variants mapping r h i e.found c e.there (sym (ap (λ (g : Form). g.caller) e.is) ∙ called)
