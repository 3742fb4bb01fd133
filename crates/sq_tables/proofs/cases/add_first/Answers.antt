use Rattle.std.proofs.Common.{sym, ◌∙◌, nat_eq, true, false}
use Rattle.indexmap.specs.IndexMap.{get}
use Rattle.sq_tables.proofs.Firsts.{is_in, table_stays, table_grows}
use Rattle.sq_tables.proofs.cases.add_first.Goals as goal

pub returns-then-is_some-clause-firsts : goal.returns-then-is_some-clause-firsts
returns-then-is_some-clause-firsts c = λ r is.
    table_stays c.args.arms.now.list (get nat_eq c.args.arms.now.firsts) c.args.form r c.requires
    (is_in (get nat_eq c.args.arms.now.firsts) c.args.form c.get.result true c.get.ensures.value
    (sym c.is_some.ensures ∙ c.if-is_some.true)) is

pub returns-in-Ok-clause-firsts : goal.returns-in-Ok-clause-firsts
returns-in-Ok-clause-firsts c = λ r is.
    table_grows c.args.arms.now.list (get nat_eq c.args.arms.now.firsts) (get nat_eq c.insert.new.self) c.args.form
    c.len-number.result r c.requires
    (is_in (get nat_eq c.args.arms.now.firsts) c.args.form c.get.result false c.get.ensures.value
    (sym c.is_some.ensures ∙ c.if-is_some.false))
    c.in-Ok.ensures.updates.0 c.len-number.ensures is
