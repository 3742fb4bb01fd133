use Rattle.std.proofs.Common.{◌≡◌, ℕ, Option, None, is_some, ◌++◌, ◌∷◌, [], ap, sym, ◌∙◌, if◌then◌else◌, nat_eq}
use Rattle.std.specs.Cmp.Lexicographic.{pointwise}
use Rattle.indexmap.proofs.CallerLemmas.{insert_entry-new}
use Rattle.sq_forms.specs.Steps.{key_number}
use Rattle.sq_forms.proofs.Options.{is_none}
use Rattle.sq_forms.proofs.walk.Walk.enter.Goals as goal

pub returns-clause-forms : goal.returns-clause-forms
returns-clause-forms c =
    let es = c.args.self.now.forms.entries in
    let none : key_number es c.args.key ≡ None = sym c.in_default.ensures.index in
    c.in_ok-insert.ensures.entries
    ∙ (insert_entry-new (pointwise nat_eq) c.args.self.now.forms c.args.key c.args.form (is_none _ c.in_default.ensures.found)
    ∙ sym (ap (λ (o : Option ℕ). if is_some o then es else es ++ (c.args.key, c.args.form) ∷ []) none))
