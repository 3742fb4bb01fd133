use Rattle.std.proofs.Common.{◌≡◌, ◌<◌, ◌∙◌, Some, List, length, slice_get, refl, sym, ap, subst}
use Rattle.std.proofs.lemmas.Option.{slice_get_read}
use Rattle.sq_forms.specs.declared.form.Form.{Form}
use Rattle.sq_driver.proofs.Entries.{forms_there, first_extents, found_extents}
use Rattle.sq_driver.proofs.phases.entry.entry_dims.Goals as goal

pub bounds-forms-0 : goal.bounds-forms-0
bounds-forms-0 c =
    subst (λ (l : List Form). 0 < length l) (sym c.forms.ensures)
    (forms_there c.args.resolved.now (c.entry_is_first.ensures c.args.resolved.now)
    c.forms_are_those_found.ensures.many)

pub returns-clause-fit : goal.returns-clause-fit
returns-clause-fit c =
    let below : 0 < length c.forms.result.now =
    subst (λ (l : List Form). 0 < length l) (sym c.forms.ensures)
    (forms_there c.args.resolved.now (c.entry_is_first.ensures c.args.resolved.now)
    c.forms_are_those_found.ensures.many) in
    first_extents c.args.resolved.now (c.entry_is_first.ensures c.args.resolved.now) c.index-forms-0.result
    c.as_slice.result.now
    (subst (λ (l : List Form). slice_get l 0 ≡ Some c.index-forms-0.result) c.forms.ensures
    (slice_get_read c.forms.result.now (length c.forms.result.now) 0 c.index-forms-0.result refl below
    c.index-forms-0.is))
    (c.as_slice.ensures ∙ ap (λ (f : Form). f.extents) (sym c.index-forms-0.is))

pub returns-clause-found : goal.returns-clause-found
returns-clause-found c =
    let below : 0 < length c.forms.result.now =
    subst (λ (l : List Form). 0 < length l) (sym c.forms.ensures)
    (forms_there c.args.resolved.now (c.entry_is_first.ensures c.args.resolved.now)
    c.forms_are_those_found.ensures.many) in
    found_extents c.args.resolved.now (c.entry_is_first.ensures c.args.resolved.now) c.index-forms-0.result
    c.as_slice.result.now
    (subst (λ (l : List Form). slice_get l 0 ≡ Some c.index-forms-0.result) c.forms.ensures
    (slice_get_read c.forms.result.now (length c.forms.result.now) 0 c.index-forms-0.result refl below
    c.index-forms-0.is))
    (c.as_slice.ensures ∙ ap (λ (f : Form). f.extents) (sym c.index-forms-0.is))
