use Rattle.std.proofs.Common.{sym, ap, ◌∙◌}
use Rattle.std.specs.Option.{option_copied}
use Rattle.sq_term.specs.Placed.declared.home.Homes.{Homes}
use Rattle.sq_term.specs.Terms.{no_homes}
use Rattle.sq_tables.proofs.Lists.{no_item, an_item}
use Rattle.sq_tables.proofs.pipes.form_overlaps.Goals as goal

pub returns-in-None : goal.returns-in-None
returns-in-None c =
    ap (λ (h : Homes). h.overlaps) (no_item c.args.homes.now c.args.form no_homes
    (sym c.at.ensures ∙ ap option_copied c.in-None.is))

pub returns-in-Some : goal.returns-in-Some
returns-in-Some c =
    ap (λ (h : Homes). h.overlaps) (an_item c.args.homes.now c.args.form no_homes c.in-Some.own.now
    (sym c.at.ensures ∙ ap option_copied c.in-Some.is))
