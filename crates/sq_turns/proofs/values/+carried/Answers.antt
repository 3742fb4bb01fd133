use Rattle.std.proofs.Common.{rules, ◌≡◌, ◌-◌, false, length, arith}
use Rattle.sq_columns.specs.Lines.{divides}
use Rattle.sq_leaf.specs.declared.code.Step.{out-Step}
use Rattle.sq_leaf.proofs.code.Step.TheLaws.{the_size}
use Rattle.sq_turns.proofs.Paths.{part_weighs, under_starts, under_extreme_starts}
use Rattle.sq_turns.proofs.values.+carried.Goals as goal

pub behind-behind_front-requires : goal.behind-behind_front-requires
behind-behind_front-requires t c =
    let part = part_weighs the_size c.args.list.now c.in-Some.prefix.count (length c.args.list.now - c.in-Some.prefix.count) in
    (omega (arith, part), search rules)

pub under-returns-in-Some-clause-gives : goal.under-returns-in-Some-clause-gives
under-returns-in-Some-clause-gives t c =
    let whole : divides (out-Step c.args.step.now).op ≡ false = search rules in
    under_starts c.args.setting.now c.args.step.now c.args.next c.args.x c.numbers_of-left.result c.free_behind-free.result
    c.in-Some.hole c.carried.new.links.items c.args.columns.now c.carried.new.columns _ c.lengthened.result c.lengthened.new.links.items
    whole c.numbers_of-left.ensures.same c.free_behind-free.ensures.has c.in-Some.ensures.kept c.in-Some.ensures.gives c.lengthened.ensures

pub under_extreme-returns-in-Some-clause-gives : goal.under_extreme-returns-in-Some-clause-gives
under_extreme-returns-in-Some-clause-gives t c =
    under_extreme_starts c.args.setting.now c.args.most _ c.args.x c.free_behind-free.result c.in-Some.hole c.carried.new.links.items
    c.args.columns.now c.carried.new.columns _ c.extreme_link.result c.lengthened.result c.lengthened.new.links.items
    c.free_behind-free.ensures.has c.in-Some.ensures.kept c.in-Some.ensures.gives c.extreme_link.ensures c.lengthened.ensures
