use Rattle.std.proofs.Common.{rules, ◌≡◌, length, sym, ap, subst, ◌∙◌}
use Rattle.std.specs.Prelude.{slice_get}
use Rattle.sq_sums.specs.Sums.{AreTables}
use Rattle.sq_sums.proofs.Gathering.{tables_more, last_table, table_there}
use Rattle.sq_sums.proofs.sums.table_for.Goals as goal

pub returns-in_ok-push-clause-tables : goal.returns-in_ok-push-clause-tables
returns-in_ok-push-clause-tables c =
    subst (AreTables c.args.route.now c.args.sites) (sym c.in_ok-push.ensures.items)
    (tables_more c.args.route.now c.args.sites c.args.tables.now.items _ c.requires c.in_ok-marks.ensures)

pub returns-in_ok-push-clause-there : goal.returns-in_ok-push-clause-there
returns-in_ok-push-clause-there c =
    let e : c.table_at-i.result ≡ length c.args.tables.now.items = search rules in (
      _,
      ap (λ l. slice_get l c.table_at-i.result) c.in_ok-push.ensures.items ∙ ap (slice_get _) e
          ∙ last_table c.args.tables.now.items _,
      c.in_ok-marks.ensures,
    )

pub returns-else-i-len-clause-there : goal.returns-else-i-len-clause-there
returns-else-i-len-clause-there c =
    table_there c.args.route.now c.args.sites c.args.tables.now.items c.args.fan c.table_at-i.result c.requires
    (search rules) (search rules)
