use Rattle.std.proofs.Common.{◌≡◌, Option, None, is_some, ◌++◌, ◌∷◌, [], ap, sym, ◌∙◌, if◌then◌else◌, nat_eq}
use Rattle.std.specs.Map.{lookup}
use Rattle.std.specs.Cmp.Lexicographic.{pointwise}
use Rattle.indexmap.proofs.CallerLemmas.{insert_entry-new}
use Rattle.indexmap.specs.IndexMap.{insert_entry}
use Rattle.sq_text.specs.Names.{same_name}
use Rattle.sq_forms.proofs.decls.bind_array.Goals as goal

pub returns-in_ok-insert-in-None : goal.returns-in_ok-insert-in-None
returns-in_ok-insert-in-None c =
    let es = c.args.arrays.now.entries in
    let none : lookup (same_name c.args.name.now) es ≡ None = sym c.in-None.ensures.value in
    c.in_ok-insert-in-None.ensures.entries
    ∙ (ap (λ n. insert_entry (pointwise nat_eq) es n c.args.array) c.in_ok-copy-in-None.ensures
    ∙ (insert_entry-new (pointwise nat_eq) c.args.arrays.now c.args.name.now c.args.array none
    ∙ sym (ap (λ (o : Option _). if is_some o then es else es ++ (c.args.name.now, c.args.array) ∷ []) none)))
