use Rattle.std.proofs.Common.{◌≡◌, ◌∷◌, [], rules, length, sym, ap, ◌∙◌}
use Rattle.std.specs.Option.{option_copied}
use Rattle.sq_tables.specs.Term.Terms.{entry_row}
use Rattle.sq_draft.proofs.Made.{entry_made}
use Rattle.sq_draft.proofs.entry.draft_term.Goals as goal

pub returns : goal.returns
returns c =
    let one : c.as_slice-list.result.now ≡ entry_row c.args.args ∷ [] = search rules in
    c.in_ok-made.ensures
    ∙ entry_made c.args.bodies.now c.args.homes.now (length c.args.bodies.now) c.in-Some.own.now c.in-Some-at.body.now
    c.in_ok-c.c c.as_slice-list.result.now c.in-Some-at-2.row.now c.args.args
    (sym c.at.ensures ∙ ap option_copied c.in-Some.is) (sym c.at-2.ensures ∙ ap option_copied c.in-Some-at.is)
    c.in_ok-c.ensures one (sym c.at-3.ensures ∙ ap option_copied c.in-Some-at-2.is)
