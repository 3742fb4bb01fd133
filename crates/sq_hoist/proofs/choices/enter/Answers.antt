use Rattle.std.proofs.Common.{rules, ◌≡◌, sym, ◌∙◌, nat_eq, true, false}
use Rattle.indexmap.specs.IndexMap.{get}
use Rattle.sq_hoist.proofs.Entered.{is_in, table_stays, table_grows}
use Rattle.sq_hoist.proofs.choices.enter.Goals as goal

pub returns-then-is_some : goal.returns-then-is_some
returns-then-is_some c = λ rest all are.
    table_stays rest all (get nat_eq c.args.leaves.now.table) c.args.site.now are
    (is_in (get nat_eq c.args.leaves.now.table) c.args.site.now.form c.get.result true c.get.ensures.value
    (sym c.is_some.ensures ∙ c.if-is_some.true))

pub returns-in-Ok : goal.returns-in-Ok
returns-in-Ok c =
    let same : c.in_ok-list.list ≡ c.args.site.now.leaves = search rules in
    λ rest all are.
    table_grows rest all (get nat_eq c.args.leaves.now.table) (get nat_eq c.insert.new.self) c.args.site.now
    c.in_ok-list.list are
    (is_in (get nat_eq c.args.leaves.now.table) c.args.site.now.form c.get.result false c.get.ensures.value
    (sym c.is_some.ensures ∙ c.if-is_some.false))
    same c.in-Ok.ensures.updates.0
