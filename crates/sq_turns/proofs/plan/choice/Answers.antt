use Rattle.std.proofs.Common.{map}
use Rattle.sq_leaf.specs.Running as running
use Rattle.sq_turns.proofs.Planning.{choice_is}
use Rattle.sq_turns.proofs.plan.choice.Goals as goal

pub returns-in_Some-second-in_Some-first-in-Some-clause-is : goal.returns-in_Some-second-in_Some-first-in-Some-clause-is
returns-in_Some-second-in_Some-first-in-Some-clause-is c =
    choice_is c.args.setting.now c.args.v.now c.args.w.now c.args.test.now
    (map running.run_action c.args.taken.now) (map running.run_action c.args.other.now) c.numbers.new.columns c.branch-first.new.columns c.branch-second.new.columns
    c.args.next c.behind-free.result c.in_Some-first-in-Some.field-0.free c.in_Some-second-in_Some-first-in-Some.field-0.free c.in-Some.x _ _
    c.in-Some.ensures.gives c.behind-free.ensures.column c.behind-free.ensures.after c.in_Some-first-in-Some.ensures.is
    c.branch-first.ensures.kept c.in_Some-second-in_Some-first-in-Some.ensures.is c.branch-second.ensures.kept
