use Rattle.std.proofs.Common.{rules, ◌≡◌, sym, ap, ◌∙◌, nat_eq, true, slice_get, Some}
use Rattle.std.specs.Option.{option_copied}
use Rattle.indexmap.specs.IndexMap.{get}
use Rattle.sq_term.specs.Terms.{is_same_arm}
use Rattle.sq_tables.proofs.Firsts.{no_arm, the_arm}
use Rattle.sq_tables.proofs.cases.find_arm.Goals as goal

pub returns-in_default : goal.returns-in_default
returns-in_default c =
    no_arm c.args.arms.now.list (get nat_eq c.args.arms.now.firsts) c.args.r.now c.requires
    (sym c.get.ensures.value ∙ ap option_copied c.in_default.is)

pub returns-then-is_same_arm : goal.returns-then-is_same_arm
returns-then-is_same_arm c =
    let there : slice_get c.args.arms.now.list c.in-Some.first.now ≡ Some c.arm.inside.row.now = search rules in
    let same : is_same_arm c.args.r.now c.arm.inside.row.now ≡ true = sym c.is_same_arm.ensures
    ∙ c.if-is_same_arm.true in
    the_arm c.args.arms.now.list (get nat_eq c.args.arms.now.firsts) c.args.r.now c.in-Some.first.now
    c.arm.inside.row.now c.requires
    (sym c.get.ensures.value ∙ ap option_copied c.in-Some.is) there same
