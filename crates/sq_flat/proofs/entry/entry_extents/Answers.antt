use Rattle.std.proofs.Common.{rules, ◌≡◌, ◌∙◌, Some, slice_get}
use Rattle.sq_flat.proofs.Coded.{first_extents}
use Rattle.sq_flat.proofs.entry.entry_extents.Goals as goal

pub returns-in-Some : goal.returns-in-Some
returns-in-Some c =
    let there : slice_get c.args.r.now.forms 0 ≡ Some c.in-Some.form.now = search rules in
    c.as_slice.ensures ∙ first_extents c.args.r.now c.in-Some.form.now c.forms_are_those_found.ensures.each there
